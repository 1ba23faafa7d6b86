-- The numbers of an input that a head's step is made for: as much of cause 6 as it needs.
use Rattle.std.specs.Prelude.{◌^◌, ◌<◌}
use Rattle.protocol.specs.declared.Input.{Input}

pub record InputSized (i : Input) : Type 0 where
  pub reading : i.reading < 2 ^ 28
  pub sender : i.sender < 16
  pub serial : i.serial < 16
  pub choice : i.choice < 16
  pub carried : i.carried < 2 ^ 28
