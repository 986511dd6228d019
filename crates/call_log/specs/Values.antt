-- The code's notes as plain values.
use Rattle.std.specs.Prelude.{map}
use Rattle.call_log.specs.declared.note.Got.{Got}
use Rattle.call_log.specs.declared.note.Entry.{Entry}
use Rattle.call_log.specs.declared.note.Note.{Note as Stored}
use Rattle.call_log.specs.declared.note.Note.TheVariants.{Call, Load, End, Stray}
use Rattle.call_log.specs.Notes.{GotRange, CallEntry, Note, call_note, load_note, end_note, stray_note}

abbrev pub got_value : Got → GotRange
got_value g = record { addr = g.addr; bytes = g.bytes.items }

abbrev pub entry_value : Entry → CallEntry
entry_value e = record {
  pid = e.pid;
  call = e.call;
  args = e.args;
  sent = e.sent.items;
  reply = e.reply;
  got = map got_value e.got.items;
}

abbrev pub note_value : Stored → Note
note_value (Call entry) = call_note (entry_value entry)
note_value (Load pid program base pages) = load_note (record { pid = pid; program = program; base = base; pages = pages })
note_value (End pid how) = end_note pid how
note_value (Stray pid access) = stray_note pid access
