-- A caller's numbers in parts: the sender and the serial, and what the frame carries.
use Rattle.std.specs.Prelude.{Bool, not, ◌&&◌, ◌||◌, ℕ, ltb, leb, eqb}
use Rattle.protocol.specs.declared.Input.{Input}
use Rattle.protocol.specs.Words.{is_time, has_serial, zero_where_unused}

abbrev pub sender_fits : ℕ → Input → Bool
sender_fits n i = ltb i.sender n && (leb i.serial 15 && zero_where_unused i.action i.sender i.serial)

abbrev pub carried_fits : ℕ → Input → Bool
carried_fits n i =
    ltb i.choice n && (is_time i.carried && ((has_serial i.action || (eqb i.choice 0 && eqb i.carried 0)) && (not i.none || (eqb i.action 5 && eqb i.carried 0))))
