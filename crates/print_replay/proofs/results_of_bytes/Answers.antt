-- `results_of_bytes`: a cause of the bytes, or a sheet.
use Rattle.std.proofs.Common.{arith, sym, ◌∙◌}
use Rattle.protocol.proofs.Fits.{few_bytes}
use Rattle.data_bytes.proofs.Words.{accepted_words}
use Rattle.print_replay.proofs.Sheets.{prints_cause, prints_sheet}
use Rattle.print_replay.proofs.results_of_bytes.Goals as goal

pub returns-in-Err : goal.returns-in-Err
returns-in-Err c = prints_cause c.args.bytes.now _ c.bytes_verdict.ensures _ c.in-Err.is

pub slice_bounds-words-end : goal.slice_bounds-words-end
slice_bounds-words-end c = let few = (accepted_words _ c.big_endian-words.result _ c.bytes_verdict.ensures c.in_default.is c.big_endian-words.ensures.room).0 in omega arith

pub slice_bounds-results_of-end : goal.slice_bounds-results_of-end
slice_bounds-results_of-end c = (accepted_words _ c.big_endian-words.result _ c.bytes_verdict.ensures c.in_default.is c.big_endian-words.ensures.room).1

pub returns : goal.returns
returns c =
    let v = c.bytes_verdict.ensures in
    let accepted = c.in_default.is in
    c.results_of.ensures ∙ prints_sheet c.args.bytes.now _ v accepted _ (c.big_endian-words.ensures.words (few_bytes _ (sym v ∙ accepted)))
