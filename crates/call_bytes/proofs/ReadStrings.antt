-- The strings that an execve reads, each one behind its pointer.
use Rattle.std.proofs.Common.{◌≡◌, ◌≢◌, ℕ, suc, ◌+◌, ◌-◌, ◌*◌, ◌%◌, ◌^◌, ◌<◌, ◌≤◌, Bool, true, false, List, [], ◌++◌, length, refl, sym, ap, ◌∙◌, arith}
use Rattle.std.proofs.Math.Seq.{drop-append_seam}
use Rattle.std.proofs.lemmas.Bool.{le-ltb, lt-ltb}
use Rattle.std.proofs.lemmas.List.{append-nil}
use Rattle.std.specs.Prelude.{Option, Some, None, Result, Ok, Err, nat_lt, ◌==◌, if◌then◌else◌, slice_index}
use Rattle.byteorder.specs.Endian.{little_number}
use Rattle.byte_words.specs.ByteMap.{Bytes}
use Rattle.byte_words.specs.Numbers.{low_first, number_at}
use Rattle.vfork_exec.proofs.Keyed.{eqb_other}
use Rattle.call_log.specs.Sent.{Span, read_span, followed, string_from, strings_from, list_sent, strings_sent, path_sent, exec_sent, has_zero}
use Rattle.call_bytes.specs.declared.unread.Unread.{Unread}
use Rattle.call_bytes.specs.declared.unread.Unread.TheVariants.{Stray, Memory}
use Rattle.call_bytes.specs.Reading.{Reads, appended, AppendsNumber, ReadsOn}
use Rattle.call_bytes.proofs.ReadRanges.{appended_all, appended_strays, followed_is}

-- ---- what isn't read ends all

module _ (first last : List ℕ) (reads : (ℕ → Result (List ℕ) Span) → Result (List ℕ) Span) where
  pub unread_number : (value : List ℕ → ℕ) (found : Result (List ℕ) Span) (old new : List ℕ) (e : Unread) →
      ((stray : Span) → found ≡ Err stray → (more : ℕ → Result (List ℕ) Span) → appended first (reads more) ≡ Err stray)
      → AppendsNumber value found old new (Err e) → ReadsOn reads first last (Err e)
  unread_number value found old new (Stray addr len) strays is =
      let stray : Span = record { addr = addr; len = len } in
      λ more. appended_strays first (reads more) stray (strays stray is more)
  unread_number value found old new Memory strays is = tt

  pub unread_string : (part : (ℕ → Result (List ℕ) Span) → Result (List ℕ) Span) (old new : List ℕ) (e : Unread) →
      ((stray : Span) → ((more : ℕ → Result (List ℕ) Span) → part more ≡ Err stray) → (more : ℕ → Result (List ℕ) Span) → appended first (reads more) ≡ Err stray)
      → ReadsOn part old new (Err e) → ReadsOn reads first last (Err e)
  unread_string part old new (Stray addr len) strays is =
      let stray : Span = record { addr = addr; len = len } in
      λ more. appended_strays first (reads more) stray (strays stray is more)
  unread_string part old new Memory strays is = tt

module _ (Y : Type 0) (all : Result (List ℕ) Span) where
  pub unread_path : (found : Result (List ℕ) Span) (e : Unread) → ((stray : Span) → found ≡ Err stray → all ≡ Err stray) → Reads {Y = Y} found (Err e) → Reads {Y = Y} all (Err e)
  unread_path found (Stray addr len) strays is = strays (record { addr = addr; len = len }) is
  unread_path found Memory strays is = tt

  pub unread_list : (part : (ℕ → Result (List ℕ) Span) → Result (List ℕ) Span) (old new : List ℕ) (e : Unread) →
      ((stray : Span) → ((more : ℕ → Result (List ℕ) Span) → part more ≡ Err stray) → all ≡ Err stray) → ReadsOn part old new (Err e) → Reads {Y = Y} all (Err e)
  unread_list part old new (Stray addr len) strays is = strays (record { addr = addr; len = len }) is
  unread_list part old new Memory strays is = tt

-- ---- numbers that are added

-- a word stands behind what was there before it was added
number_behind : (old back : List ℕ) → number_at low_first 4 (old ++ back) (length old) ≡ number_at low_first 4 back 0
unfolding number_at
number_behind old back = ap (λ (x : List ℕ). little_number 4 x) (drop-append_seam old back)

pub word_added : (found : Result (List ℕ) Span) (old new : List ℕ) → appended old found ≡ Ok new →
    (bytes : List ℕ) × (found ≡ Ok bytes) × (new ≡ old ++ bytes) × (number_at low_first 4 new (length old) ≡ number_at low_first 4 bytes 0)
word_added (Ok back) old new is =
    let joined : new ≡ old ++ back = cc in
    (back, refl, joined, ap (λ (x : List ℕ). number_at low_first 4 x (length old)) joined ∙ number_behind old back)
word_added (Err stray) old new is = absurd (cc)

-- what follows a number is read behind its bytes
followed_number : (value : List ℕ → ℕ) (found : Result (List ℕ) Span) (old new : List ℕ) (number : ℕ) (rest : ℕ → Result (List ℕ) Span) →
    AppendsNumber value found old new (Ok number) → appended old (followed found (λ bytes. rest (value bytes))) ≡ appended new (rest number)
followed_number value found old new number rest is =
    ap (λ (x : Result (List ℕ) Span). appended old (followed x (λ bytes. rest (value bytes)))) is.1
    ∙ ap (appended old) (followed_is is.0 (λ bytes. rest (value bytes)))
    ∙ appended_all old is.0 (rest (value is.0))
    ∙ ap (λ (x : List ℕ). appended x (rest (value is.0))) (sym is.2)
    ∙ ap (λ (n : ℕ). appended new (rest n)) (sym is.3)

nothing_behind : (new : List ℕ) (rest : Result (List ℕ) Span) → rest ≡ Ok [] → appended new rest ≡ Ok new
nothing_behind new rest is = let done : List ℕ → Result (List ℕ) Span = λ x. Ok x in ap (appended new) is ∙ ap done (append-nil new)

-- ---- a string

abbrev pub byte_span : ℕ → Span
byte_span at = record { addr = at % 2 ^ 32; len = 1 }

abbrev pub byte_in : List ℕ → ℕ
byte_in bytes = slice_index bytes 0

-- what follows a byte
abbrev pub behind_byte : ℕ → Bytes → (at now : ℕ) → (ℕ → Result (List ℕ) Span) → ℕ → Result (List ℕ) Span
behind_byte n m at now more byte = if now == 0 then Ok [] else if byte == 0 then more (now - 1) else string_from n m at (now - 1) more

pub string_next : (n : ℕ) (m : Bytes) (at now : ℕ) (more : ℕ → Result (List ℕ) Span) →
    string_from (suc n) m at now more ≡ followed (read_span m (byte_span at)) (λ bytes. behind_byte n m (at + 1) now more (byte_in bytes))
unfolding string_from
string_next n m at now more = refl

string_none : (m : Bytes) (at now : ℕ) (more : ℕ → Result (List ℕ) Span) → string_from 0 m at now more ≡ Ok []
unfolding string_from
string_none m at now more = refl

-- what was read of a string and what is left give the whole
abbrev pub StringSoFar : Bytes → (at left : ℕ) → List ℕ → (i now : ℕ) → List ℕ → Type 0
StringSoFar m at left old i now new =
    (more : ℕ → Result (List ℕ) Span) → appended new (string_from (1048577 - i) m (at + i) now more) ≡ appended old (string_from 1048577 m at left more)

module _ (m : Bytes) (at left : ℕ) (old : List ℕ) (i now : ℕ) (new : List ℕ) (before : StringSoFar m at left old i now new) where
  -- the most bytes are read
  pub string_full : i ≡ 1048577 → (more : ℕ → Result (List ℕ) Span) → appended old (string_from 1048577 m at left more) ≡ Ok new
  string_full is more =
      let none : 1048577 - i ≡ 0 = omega (arith, is) in
      sym (before more)
      ∙ ap (λ (k : ℕ). appended new (string_from k m (at + i) now more)) none
      ∙ nothing_behind new (string_from 0 m (at + i) now more) (string_none m (at + i) now more)

  module _ (less : i < 1048577) where
    string_left : (more : ℕ → Result (List ℕ) Span) → appended old (string_from 1048577 m at left more)
        ≡ appended new (followed (read_span m (byte_span (at + i))) (λ bytes. behind_byte (1048577 - (i + 1)) m (at + (i + 1)) now more (byte_in bytes)))
    string_left more =
        let one : 1048577 - i ≡ suc (1048577 - (i + 1)) = omega arith in
        let next : at + i + 1 ≡ at + (i + 1) = omega arith in
        sym (before more)
        ∙ ap (λ (k : ℕ). appended new (string_from k m (at + i) now more)) one
        ∙ ap (appended new) (string_next (1048577 - (i + 1)) m (at + i) now more)
        ∙ ap (λ (a : ℕ). appended new (followed (read_span m (byte_span (at + i))) (λ bytes. behind_byte (1048577 - (i + 1)) m a now more (byte_in bytes)))) next

    -- a byte strays
    pub string_strays : (stray : Span) → read_span m (byte_span (at + i)) ≡ Err stray → (more : ℕ → Result (List ℕ) Span) → appended old (string_from 1048577 m at left more) ≡ Err stray
    string_strays stray is more =
        string_left more
        ∙ ap (λ (x : Result (List ℕ) Span). appended new (followed x (λ bytes. behind_byte (1048577 - (i + 1)) m (at + (i + 1)) now more (byte_in bytes)))) is

    module _ (last : List ℕ) (byte : ℕ) (read : AppendsNumber byte_in (read_span m (byte_span (at + i))) new last (Ok byte)) where
      string_byte : (more : ℕ → Result (List ℕ) Span) →
          appended old (string_from 1048577 m at left more) ≡ appended last (behind_byte (1048577 - (i + 1)) m (at + (i + 1)) now more byte)
      string_byte more =
          string_left more
          ∙ followed_number byte_in (read_span m (byte_span (at + i))) new last byte (behind_byte (1048577 - (i + 1)) m (at + (i + 1)) now more) read

      -- it passes the most bytes
      pub string_passes : now ≡ 0 → (more : ℕ → Result (List ℕ) Span) → appended old (string_from 1048577 m at left more) ≡ Ok last
      string_passes none more =
          string_byte more ∙ nothing_behind last (behind_byte (1048577 - (i + 1)) m (at + (i + 1)) now more byte) (rw none refl)

      -- it is the zero
      pub string_ends : now ≢ 0 → byte ≡ 0 → (more : ℕ → Result (List ℕ) Span) → appended old (string_from 1048577 m at left more) ≡ appended last (more (now - 1))
      string_ends some zero more = string_byte more ∙ rw (eqb_other now 0 some, zero) refl

      -- it is another one
      pub string_on : now ≢ 0 → byte ≢ 0 → StringSoFar m at left old (i + 1) (now - 1) last
      string_on some other more = sym (string_byte more ∙ rw (eqb_other now 0 some, eqb_other byte 0 other) refl)

-- ---- a list of strings

abbrev pub word_span : ℕ → Span
word_span at = record { addr = at % 2 ^ 32; len = 4 }

abbrev pub word_in : List ℕ → ℕ
word_in bytes = number_at low_first 4 bytes 0

-- what follows a pointer
abbrev pub behind_pointer : ℕ → Bytes → (at now : ℕ) → (ℕ → Result (List ℕ) Span) → ℕ → Result (List ℕ) Span
behind_pointer n m at now more pointer =
    if pointer == 0 then more now
    else if nat_lt now 4 then Ok []
    else string_from 1048577 m pointer (now - 4) (λ left. strings_from n m at left more)

pub list_next : (n : ℕ) (m : Bytes) (at now : ℕ) (more : ℕ → Result (List ℕ) Span) →
    strings_from (suc n) m at now more ≡ followed (read_span m (word_span at)) (λ bytes. behind_pointer n m (at + 4) now more (word_in bytes))
unfolding strings_from
list_next n m at now more = refl

pub list_none : (m : Bytes) (at now : ℕ) (more : ℕ → Result (List ℕ) Span) → strings_from 0 m at now more ≡ Ok []
unfolding strings_from
list_none m at now more = refl

-- no list stands at 0
pub list_nowhere : (m : Bytes) (at left : ℕ) (old : List ℕ) → at ≡ 0 → (more : ℕ → Result (List ℕ) Span) → appended old (list_sent m at left more) ≡ appended old (more left)
list_nowhere m at left old is more = rw is refl

-- what was read of a list and what is left give the whole
abbrev pub ListSoFar : Bytes → (at left : ℕ) → List ℕ → (i now : ℕ) → List ℕ → Type 0
ListSoFar m at left old i now new =
    (more : ℕ → Result (List ℕ) Span) → appended new (strings_from (1048577 - i) m (at + 4 * i) now more) ≡ appended old (list_sent m at left more)

pub list_begins : (m : Bytes) (at left : ℕ) (old : List ℕ) → at ≢ 0 → ListSoFar m at left old 0 left old
list_begins m at left old some more =
    let first : at + 4 * 0 ≡ at = omega arith in
    ap (λ (a : ℕ). appended old (strings_from 1048577 m a left more)) first ∙ rw (eqb_other at 0 some) refl

module _ (m : Bytes) (at left : ℕ) (old : List ℕ) (i now : ℕ) (new : List ℕ) (before : ListSoFar m at left old i now new) where
  -- the most pointers are read
  pub list_full : i ≡ 1048577 → (more : ℕ → Result (List ℕ) Span) → appended old (list_sent m at left more) ≡ Ok new
  list_full is more =
      let none : 1048577 - i ≡ 0 = omega (arith, is) in
      sym (before more)
      ∙ ap (λ (k : ℕ). appended new (strings_from k m (at + 4 * i) now more)) none
      ∙ nothing_behind new (strings_from 0 m (at + 4 * i) now more) (list_none m (at + 4 * i) now more)

  module _ (less : i < 1048577) where
    list_left : (more : ℕ → Result (List ℕ) Span) → appended old (list_sent m at left more)
        ≡ appended new (followed (read_span m (word_span (at + 4 * i))) (λ bytes. behind_pointer (1048577 - (i + 1)) m (at + 4 * (i + 1)) now more (word_in bytes)))
    list_left more =
        let one : 1048577 - i ≡ suc (1048577 - (i + 1)) = omega arith in
        let next : at + 4 * i + 4 ≡ at + 4 * (i + 1) = omega arith in
        sym (before more)
        ∙ ap (λ (k : ℕ). appended new (strings_from k m (at + 4 * i) now more)) one
        ∙ ap (appended new) (list_next (1048577 - (i + 1)) m (at + 4 * i) now more)
        ∙ ap (λ (a : ℕ). appended new (followed (read_span m (word_span (at + 4 * i))) (λ bytes. behind_pointer (1048577 - (i + 1)) m a now more (word_in bytes)))) next

    -- a pointer strays
    pub list_strays : (stray : Span) → read_span m (word_span (at + 4 * i)) ≡ Err stray → (more : ℕ → Result (List ℕ) Span) → appended old (list_sent m at left more) ≡ Err stray
    list_strays stray is more =
        list_left more
        ∙ ap (λ (x : Result (List ℕ) Span). appended new (followed x (λ bytes. behind_pointer (1048577 - (i + 1)) m (at + 4 * (i + 1)) now more (word_in bytes)))) is

    module _ (last : List ℕ) (pointer : ℕ) (read : AppendsNumber word_in (read_span m (word_span (at + 4 * i))) new last (Ok pointer)) where
      list_pointer : (more : ℕ → Result (List ℕ) Span) →
          appended old (list_sent m at left more) ≡ appended last (behind_pointer (1048577 - (i + 1)) m (at + 4 * (i + 1)) now more pointer)
      list_pointer more =
          list_left more
          ∙ followed_number word_in (read_span m (word_span (at + 4 * i))) new last pointer (behind_pointer (1048577 - (i + 1)) m (at + 4 * (i + 1)) now more) read

      -- it is the zero
      pub list_ends : pointer ≡ 0 → (more : ℕ → Result (List ℕ) Span) → appended old (list_sent m at left more) ≡ appended last (more now)
      list_ends zero more = list_pointer more ∙ rw zero refl

      module _ (other : pointer ≢ 0) where
        -- it passes the most bytes
        pub list_passes : now < 4 → (more : ℕ → Result (List ℕ) Span) → appended old (list_sent m at left more) ≡ Ok last
        list_passes few more =
            list_pointer more
            ∙ nothing_behind last (behind_pointer (1048577 - (i + 1)) m (at + 4 * (i + 1)) now more pointer) (rw (eqb_other pointer 0 other, lt-ltb now 4 few) refl)

        -- its string follows
        module _ (enough : 4 ≤ now) where
          list_string : (more : ℕ → Result (List ℕ) Span) → appended old (list_sent m at left more)
              ≡ appended last (string_from 1048577 m pointer (now - 4) (λ left. strings_from (1048577 - (i + 1)) m (at + 4 * (i + 1)) left more))
          list_string more = list_pointer more ∙ rw (eqb_other pointer 0 other, le-ltb now 4 enough) refl

          -- it strays
          pub string_in_strays : (stray : Span) → ((more : ℕ → Result (List ℕ) Span) → string_from 1048577 m pointer (now - 4) more ≡ Err stray)
              → (more : ℕ → Result (List ℕ) Span) → appended old (list_sent m at left more) ≡ Err stray
          string_in_strays stray is more = list_string more ∙ ap (appended last) (is (λ left. strings_from (1048577 - (i + 1)) m (at + 4 * (i + 1)) left more))

          -- it passes the most bytes
          pub string_in_passes : (all : List ℕ) → ReadsOn (string_from 1048577 m pointer (now - 4)) last all (Ok None)
              → (more : ℕ → Result (List ℕ) Span) → appended old (list_sent m at left more) ≡ Ok all
          string_in_passes all is more = list_string more ∙ is (λ left. strings_from (1048577 - (i + 1)) m (at + 4 * (i + 1)) left more)

          -- it is read whole
          pub list_on : (all : List ℕ) (rest : ℕ) → ReadsOn (string_from 1048577 m pointer (now - 4)) last all (Ok (Some rest)) → ListSoFar m at left old (i + 1) rest all
          list_on all rest is more = sym (list_string more ∙ is (λ left. strings_from (1048577 - (i + 1)) m (at + 4 * (i + 1)) left more))

-- ---- an execve

-- the last list is read, or the most bytes are passed
list_done : (reads : (ℕ → Result (List ℕ) Span) → Result (List ℕ) Span) (old new : List ℕ) (left : Option ℕ) → ReadsOn reads old new (Ok left) → appended old (reads (λ left. Ok [])) ≡ Ok new
list_done reads old new (Some left) is = is (λ left. Ok []) ∙ nothing_behind new (Ok []) refl
list_done reads old new None is = is (λ left. Ok [])

-- what follows the path
abbrev behind_path : Bytes → (args env : ℕ) → Bool → Result (List ℕ) Span
behind_path m args env whole = if whole then strings_sent m args env else Ok []

-- the path strays
pub path_strays : (m : Bytes) (path args env : ℕ) (stray : Span) → path_sent m path ≡ Err stray → exec_sent m path args env ≡ Err stray
path_strays m path args env stray is = ap (λ (x : Result (List ℕ) Span). followed x (λ bytes. behind_path m args env (has_zero bytes))) is

module _ (m : Bytes) (path args env : ℕ) (bytes : List ℕ) (is : path_sent m path ≡ Ok bytes) where
  exec_path : exec_sent m path args env ≡ appended bytes (behind_path m args env (has_zero bytes))
  exec_path =
      ap (λ (x : Result (List ℕ) Span). followed x (λ bytes. behind_path m args env (has_zero bytes))) is ∙ followed_is bytes (λ bytes. behind_path m args env (has_zero bytes))

  -- it is too long
  pub path_too_long : has_zero bytes ≡ false → exec_sent m path args env ≡ Ok bytes
  path_too_long none = exec_path ∙ nothing_behind bytes (behind_path m args env (has_zero bytes)) (ap (behind_path m args env) none)

  module _ (whole : has_zero bytes ≡ true) where
    pub exec_strings : exec_sent m path args env ≡ appended bytes (strings_sent m args env)
    exec_strings = exec_path ∙ ap (λ (b : Bool). appended bytes (behind_path m args env b)) whole

    pub args_stray : (stray : Span) → ((more : ℕ → Result (List ℕ) Span) → list_sent m args 1048576 more ≡ Err stray) → exec_sent m path args env ≡ Err stray
    args_stray stray strays = exec_strings ∙ ap (appended bytes) (strays (λ left. list_sent m env left (λ left. Ok [])))

    pub args_pass : (new : List ℕ) → ReadsOn (list_sent m args 1048576) bytes new (Ok None) → exec_sent m path args env ≡ Ok new
    args_pass new passes = exec_strings ∙ passes (λ left. list_sent m env left (λ left. Ok []))

    module _ (left : ℕ) (new : List ℕ) (read : ReadsOn (list_sent m args 1048576) bytes new (Ok (Some left))) where
      exec_env : exec_sent m path args env ≡ appended new (list_sent m env left (λ left. Ok []))
      exec_env = exec_strings ∙ read (λ left. list_sent m env left (λ left. Ok []))

      pub env_strays : (stray : Span) → ((more : ℕ → Result (List ℕ) Span) → list_sent m env left more ≡ Err stray) → exec_sent m path args env ≡ Err stray
      env_strays stray strays = exec_env ∙ ap (appended new) (strays (λ left. Ok []))

      pub env_read : (all : List ℕ) (rest : Option ℕ) → ReadsOn (list_sent m env left) new all (Ok rest) → exec_sent m path args env ≡ Ok all
      env_read all rest reads = exec_env ∙ list_done (list_sent m env left) new all rest reads
