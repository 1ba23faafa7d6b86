-- A setting's five numbers as a setting, and an entry's six as an entry.
use Rattle.protocol.specs.declared.Setting.{Setting}
use Rattle.protocol.specs.declared.Entry.{Entry}
use Rattle.protocol.specs.Recorder.{setting_from, entry_from}
use Rattle.sheet_numbers.specs.declared.SettingNumbers.{SettingNumbers}
use Rattle.sheet_numbers.specs.declared.EntryNumbers.{EntryNumbers}

abbrev pub numbered_setting : SettingNumbers → Setting
numbered_setting s = setting_from s.n s.f s.correct s.drift s.tightness

abbrev pub numbered_entry : EntryNumbers → Entry
numbered_entry e = entry_from e.time e.reading e.head e.action e.sender e.serial
