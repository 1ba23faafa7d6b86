-- The code's tests in their order make up row_in_range.
use Rattle.std.specs.Prelude.{is_some}
use mathlib.Core.Path.{◌≡◌}
use mathlib.Core.Bool.{Bool, ◌&&◌, ◌||◌, and_assoc}
use lib.Dec.{ltb, eqb}
use Rattle.protocol.specs.declared.HeadRow.{HeadRow}
use Rattle.protocol.specs.Words.{is_time, heads_fit}
use Rattle.protocol.specs.Record.{votes, adjusts, phase_in_range, marks_in_range, record_in_range}
use Rattle.protocol.specs.Row.{number_in, record_in, row_fits, row_in_range}
use Rattle.head_ranges.specs.Parts.{own_fits, times_fit, phase_fits, marks_allowed, senders_in_range}

regroup : (x a b c d e p q m z : Bool)
    → (x && (a && (b && (c && (d && (e && (p && (q && (m && z))))))))) ≡ ((x && ((a && b) && (c && (d && e)))) && ((p && (q && m)) && z))
regroup x a b c d e p q m z = simp and_assoc

pub in_parts : (w : HeadRow)
    → row_in_range w
    ≡ ((row_fits w && (own_fits w && times_fit w))
    && ((phase_fits votes w 8 && (phase_fits adjusts w 32 && marks_allowed w.marks.0)) && senders_in_range (record_in w)))
unfolding row_in_range record_in_range phase_in_range marks_in_range senders_in_range record_in
in_parts w =
    regroup (row_fits w) (heads_fit w.heads w.faulty) (ltb w.own w.heads) (is_time w.last) (is_time w.adjustment)
    (is_some (number_in w.adjusts.choice) || eqb w.adjustment 0) (phase_fits votes w 8) (phase_fits adjusts w 32) (marks_allowed w.marks.0) _
