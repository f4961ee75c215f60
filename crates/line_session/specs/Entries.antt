-- What happens at a server, as code has it.
use Rattle.spec_api.specs.History as history
use Rattle.meta.specs.Writes.{write_of}
use Rattle.line_session.specs.declared.entries.JournalEntry.{JournalEntry}
use Rattle.line_session.specs.declared.entries.JournalEntry.TheVariants as code

abbrev pub entry_of : JournalEntry → history.Entry
entry_of (code.Write w) = history.write (write_of w)
entry_of (code.Compaction r) = history.compaction r
