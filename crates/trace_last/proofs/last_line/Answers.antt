-- `last_line`: a cause of the bytes, or a sheet.
use Rattle.std.proofs.Common.{arith, sym, ◌∙◌}
use Rattle.protocol.proofs.Fits.{few_bytes}
use Rattle.data_bytes.proofs.Words.{accepted_words}
use Rattle.trace_last.proofs.Last.{cause_line, sheet_line}
use Rattle.print_lines.proofs.Lengths.{last_short, refused_short}
use Rattle.trace_last.proofs.last_line.Goals as goal

pub returns-in-Err-clause-text : goal.returns-in-Err-clause-text
returns-in-Err-clause-text c = cause_line c.args.bytes.now _ c.bytes_verdict.ensures _ c.in-Err.is

pub slice_bounds-words-end : goal.slice_bounds-words-end
slice_bounds-words-end c = let few = (accepted_words _ c.big_endian-words.result _ c.bytes_verdict.ensures c.in_default.is c.big_endian-words.ensures.room).0 in omega arith

pub slice_bounds-line_of_sheet-end : goal.slice_bounds-line_of_sheet-end
slice_bounds-line_of_sheet-end c = (accepted_words _ c.big_endian-words.result _ c.bytes_verdict.ensures c.in_default.is c.big_endian-words.ensures.room).1

pub returns-clause-text : goal.returns-clause-text
returns-clause-text c =
    let v = c.bytes_verdict.ensures in
    let accepted = c.in_default.is in
    c.line_of_sheet.ensures ∙ sheet_line c.args.bytes.now _ v accepted _ (c.big_endian-words.ensures.words (few_bytes _ (sym v ∙ accepted)))

pub returns-in-Err-clause-short : goal.returns-in-Err-clause-short
returns-in-Err-clause-short c = refused_short _ 0

pub returns-clause-short : goal.returns-clause-short
returns-clause-short c = last_short c.line_of_sheet.result
