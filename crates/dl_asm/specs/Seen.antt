-- What the code reads from a line, as the definitions see it.
use Rattle.dl_asm.specs.declared.line.Line.{Line}
use Rattle.dl_asm.specs.declared.line.Line.TheVariants.{Nothing, Misspelled, Unknown, Unfit, Says}
use Rattle.dl_asm.specs.Lines as lines

abbrev pub seen : Line → lines.Said
seen Nothing = lines.Said.Nothing
seen Misspelled = lines.Said.Misspelled
seen Unknown = lines.Said.Unknown
seen (Unfit form) = lines.Said.Unfit form
seen (Says form registers value) = lines.Said.Says form registers value.now
