-- What is printed of a sheet's bytes, by what came out of it.
use Rattle.std.specs.Prelude.{List, ℕ, Result, Ok, Err}
use Rattle.protocol.specs.declared.Refusal.{Refusal}
use Rattle.protocol.specs.Program.{refused_line}
use Rattle.print_lines.specs.declared.Results.{Results}
use Rattle.print_lines.specs.Lines.{result_lines}
use Rattle.print_replay.specs.declared.Printout.{Printout}

-- the results' lines, or that of the refusal
abbrev pub text_of : Result Results Refusal → List ℕ
text_of (Ok x) = result_lines x.words x.n x.premise
text_of (Err x) = refused_line x.cause x.place

abbrev pub printout_text : Printout → List ℕ
printout_text x = text_of x.0
