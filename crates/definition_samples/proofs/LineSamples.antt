-- The lines of notes, as the log writes them.
use Rattle.std.proofs.Common.{◌≡◌, ℕ, List, [], ◌∷◌, ◌++◌, refl}
use Rattle.std.specs.Prelude.{codes}
use Rattle.std.specs.Fmt.{digits}
use Rattle.hex.specs.Hex.{encode_with}
use Rattle.call_log.specs.declared.how.How.TheVariants.{Exit, Signal}
use Rattle.byte_words.specs.declared.access.AccessKind.{AccessKind}
use Rattle.byte_words.specs.declared.access.AccessKind.TheVariants as access
use Rattle.call_log.specs.Notes.{Note, GotRange, call_note, load_note, end_note, stray_note}
use Rattle.call_log.specs.Lines.{line}

-- two programs
abbrev told : Note → List ℕ
told note = line (codes "/hi" ∷ codes "/bin/ho" ∷ []) note

-- the second of them
load : told (load_note (record { pid = 12; program = 1; base = 0x8000_2000; pages = 2 })) ≡ codes "load 12 /bin/ho base 0x80002000 pages 2\n"
unfolding digits
load = refl

-- a program that there isn't has no path
load-none : told (load_note (record { pid = 1; program = 2; base = 0x1000; pages = 10 })) ≡ codes "load 1  base 0x00001000 pages 10\n"
unfolding digits
load-none = refl

abbrev call : (sent : List ℕ) → (reply : ℕ) → List GotRange → List ℕ
call sent reply got = told (call_note (record { pid = 1; call = 63; args = 3 ∷ 0x8000_1fd0 ∷ 0x10 ∷ 0 ∷ 0 ∷ 0xffff_ffff ∷ []; sent = sent; reply = reply; got = got }))

call-nothing : call [] 0xffff_fff7 [] ≡ codes "call 1 63 00000003 80001fd0 00000010 00000000 00000000 ffffffff = fffffff7 sent - got -\n"
unfolding digits
call-nothing = refl

call-bytes :
    call (codes "hi\n") 3 (record { addr = 0x8000_0000; bytes = 0 ∷ 0x0f ∷ 0xff ∷ [] } ∷ record { addr = 0x40; bytes = 0xa0 ∷ [] } ∷ [])
    ≡ codes "call 1 63 00000003 80001fd0 00000010 00000000 00000000 ffffffff = 00000003 sent 68690a got 80000000:000fff 00000040:a0\n"
unfolding digits encode_with
call-bytes = refl

ends : told (end_note 7 (Exit 255)) ++ told (end_note 10 (Signal 11)) ≡ codes "end 7 exit 255\nend 10 signal 11\n"
unfolding digits
ends = refl

abbrev stray : AccessKind → List ℕ
stray kind = told (stray_note 3 (record { pc = 0x8000_0088; addr = 0xabc; len = 4; kind = kind }))

strays :
    stray access.Fetch ++ stray access.Load ++ stray access.Store ++ stray access.Call
    ≡ codes "stray 3 pc 0x80000088 addr 0x00000abc len 4 fetch\n"
    ++ codes "stray 3 pc 0x80000088 addr 0x00000abc len 4 load\n"
    ++ codes "stray 3 pc 0x80000088 addr 0x00000abc len 4 store\n"
    ++ codes "stray 3 pc 0x80000088 addr 0x00000abc len 4 call\n"
unfolding digits
strays = refl
