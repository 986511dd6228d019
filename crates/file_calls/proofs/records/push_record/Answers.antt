-- The parts of a record, one behind the other.
use Rattle.std.proofs.Common.{◌∙◌, length, take, sym, ap}
use Rattle.byte_words.specs.ByteMap.{little_bytes}
use Rattle.byte_words.proofs.LowestFirst.{little_bytes_are}
use Rattle.machine_world.specs.Descriptors.{record_len, type_of}
use Rattle.file_calls.proofs.Listed.{record_pushed, two_bytes, zeros_behind}
use Rattle.file_calls.proofs.records.push_record.Goals as goal

pub returns : goal.returns
returns c =
    c.in_ok-extend_from_slice-5.ensures.items
    ∙ record_pushed c.args.tree.now c.args.next (record { name = c.args.name.now; id = c.args.id }) c.args.bytes.now.items _ _ _ _ _ _ _ _ _ _
    c.in_ok-extend_from_slice.ensures.items
    c.in_ok-extend_from_slice-2.ensures.items
    c.in_ok-extend_from_slice-3.ensures.items
    c.in_ok-push.ensures.items
    c.in_ok-extend_from_slice-4.ensures.items
    (c.to_le_bytes.ensures ∙ sym (little_bytes_are 8 c.from.result) ∙ ap (little_bytes 8) c.from.ensures)
    (c.to_le_bytes-2.ensures ∙ sym (little_bytes_are 8 c.args.next))
    (ap (take 2) c.to_le_bytes-3.ensures ∙ two_bytes c.record_len-len.result (record_len (length c.args.name.now)) c.record_len-len.ensures)
    (c.type_of.ensures ∙ ap type_of c.kind.ensures)
    (zeros_behind c.record_len-len.result (length c.args.name.now) c.record_len-len.ensures)
