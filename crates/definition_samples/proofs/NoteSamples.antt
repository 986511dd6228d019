-- Lines of notes at the edges of their forms: nothing read, bytes beside a refusal, and pids of two digits.
use Rattle.std.proofs.Common.{◌≡◌, ℕ, List, [], ◌∷◌, map, refl}
use Rattle.std.specs.Prelude.{codes}
use Rattle.std.specs.Fmt.{digits}
use Rattle.hex.specs.Hex.{encode_with}
use Rattle.call_log.specs.declared.how.How.TheVariants.{Exit, Signal}
use Rattle.byte_words.specs.declared.access.AccessKind.TheVariants.{Store}
use Rattle.call_log.specs.Errno.{refusal}
use Rattle.call_log.specs.declared.errno.Errno.TheVariants.{Enosys}
use Rattle.call_log.specs.Notes.{Note, call_note, load_note, end_note, stray_note}
use Rattle.call_log.specs.Lines.{line}

-- one program
abbrev told : Note → List ℕ
told note = line (codes "/hi" ∷ []) note

write : told (call_note (record { pid = 1; call = 64; args = 1 ∷ 0x8000_00a4 ∷ 3 ∷ 0 ∷ 0 ∷ 0 ∷ []; sent = []; reply = 3; got = [] }))
    ≡ codes "call 1 64 00000001 800000a4 00000003 00000000 00000000 00000000 = 00000003 sent - got -\n"
unfolding digits
write = refl

-- a call that was refused, and yet read and wrote bytes
refused :
    told (call_note (record {
      pid = 2;
      call = 65;
      args = 0 ∷ 1 ∷ 2 ∷ 3 ∷ 4 ∷ 0xffff_ffff ∷ [];
      sent = 0x0a ∷ 0xbc ∷ [];
      reply = refusal Enosys;
      got = record { addr = 0x8000_1000; bytes = 0x68 ∷ [] } ∷ record { addr = 0x10; bytes = 0xff ∷ 0 ∷ [] } ∷ [];
    }))
    ≡ codes "call 2 65 00000000 00000001 00000002 00000003 00000004 ffffffff = ffffffda sent 0abc got 80001000:68 00000010:ff00\n"
unfolding digits encode_with refusal
refused = refl

others :
    map told (load_note (record { pid = 1; program = 0; base = 0x8000_0000; pages = 2 }) ∷ end_note 1 (Exit 7) ∷ end_note 12 (Signal 4) ∷
    stray_note 1 (record { pc = 0x8000_0088; addr = 0x8000_2040; len = 1; kind = Store }) ∷ [])
    ≡ codes "load 1 /hi base 0x80000000 pages 2\n" ∷ codes "end 1 exit 7\n" ∷ codes "end 12 signal 4\n" ∷ codes "stray 1 pc 0x80000088 addr 0x80002040 len 1 store\n" ∷ []
unfolding digits
others = refl
