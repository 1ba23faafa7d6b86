-- `print_entries`: an accepted sheet has its first two words.
use Rattle.protocol.proofs.Fits.{sheet_fits}
use Rattle.trace.proofs.print_entries.Goals as goal

pub entry_count-i-end-requires : goal.entry_count-i-end-requires
entry_count-i-end-requires g c = (sheet_fits c.args.sheet.now c.requires).at_least_two
