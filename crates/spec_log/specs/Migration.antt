-- A log in version 2.
use Rattle.spec_log.specs.declared.log.LogParts.{LogParts}

-- as many threads as before, and all else equal; a log of version 2 as it is
abbrev pub migrated : LogParts → LogParts
migrated log = record log { version = 2 }
