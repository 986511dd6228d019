-- A host and a sink in memory: what they answer, and what is left behind a call.
use Rattle.std.proofs.Common.{◌≡◌, ℕ, true, false, List, [], ◌∷◌, map, Option, Some, None, refl, ◌∙◌}
use Rattle.std.specs.Prelude.{codes, Result, Ok, Err}
use Rattle.std.specs.Ordering.{nat_cmp}
use Rattle.std.specs.Cmp.{nat_cmp_total}
use Rattle.std.specs.Cmp.Lexicographic.{nat_list_cmp_total}
use Rattle.std.specs.FinMap.{get, insert, from_entries, get-from_entries, get-insert}
use Rattle.std.specs.FinSet as set
use Rattle.host_io.specs.declared.host.Loaded.TheVariants.{All, TooLong}
use Rattle.host_io.specs.declared.host.HostError.TheVariants.{Failed, Memory}
use Rattle.host_io.specs.declared.sink.SinkError.{SinkError}
use Rattle.host_io.specs.declared.sink.SinkError.TheVariants as sink
use Rattle.host_io.specs.Calls.{CallCounts, no_calls, is_failing, counted, with_fault, with_failing}
use Rattle.host_io.specs.Host.{Files}
use Rattle.host_io.specs.MemHost.{HostState, load_answer, store_answer, after_load, after_store}
use Rattle.host_io.specs.MemSink.{SinkState, write_answer, after_write}

-- ---- which calls fail

never : is_failing no_calls ≡ false
never = set.contains-empty nat_cmp 0

-- the next one is named, or the one behind it
first : is_failing (with_failing no_calls 0) ≡ true
first = set.contains-insert nat_cmp_total set.empty 0 0

second : is_failing (with_failing no_calls 1) ≡ false
second = set.contains-insert nat_cmp_total set.empty 1 0 ∙ set.contains-empty nat_cmp 0

-- and then that is the next one
second-next : is_failing (counted (with_failing no_calls 1)) ≡ true
second-next = set.contains-insert nat_cmp_total set.empty 1 1

-- a count stays at the greatest number
counts : map (λ made. (counted (record no_calls { made = made })).made) (0 ∷ 0xffff_ffff_ffff_fffe ∷ 0xffff_ffff_ffff_ffff ∷ []) ≡ 1 ∷ 0xffff_ffff_ffff_ffff ∷ 0xffff_ffff_ffff_ffff ∷ []
counts = refl

-- ---- a host with the file a, of five bytes, which was asked for z

abbrev files : Files
files = from_entries ((codes "a", codes "hello") ∷ [])

abbrev host : CallCounts → HostState
host calls = record { files = files; asked = codes "z" ∷ []; calls = calls }

a-is : get files (codes "a") ≡ Some (codes "hello")
a-is = get-from_entries nat_list_cmp_total ((codes "a", codes "hello") ∷ []) (codes "a")

b-is : get files (codes "b") ≡ None
b-is = get-from_entries nat_list_cmp_total ((codes "a", codes "hello") ∷ []) (codes "b")

-- all of it within a limit of five bytes, nothing of it within four, and nothing of a name that isn't there
loads-all : load_answer (host no_calls) (codes "a") 5 ≡ (Ok All, codes "hello")
loads-all = rw never (rw a-is refl)

loads-long : load_answer (host no_calls) (codes "a") 4 ≡ (Ok TooLong, [])
loads-long = rw never (rw a-is refl)

loads-none : load_answer (host no_calls) (codes "b") 5 ≡ (Err Failed, [])
loads-none = rw never (rw b-is refl)

loads-failing : load_answer (host (with_failing no_calls 0)) (codes "a") 5 ≡ (Err Failed, [])
loads-failing = rw first refl

stores-ok : store_answer (host no_calls) ≡ Ok tt
stores-ok = rw never refl

stores-failing : store_answer (host (with_failing no_calls 0)) ≡ Err Failed
stores-failing = rw first refl

-- ---- behind a call: each names what it asked for and counts, a failure is a fault, and out of memory nothing changes

abbrev asked : CallCounts → HostState
asked calls = record (host calls) { asked = codes "z" ∷ codes "a" ∷ [] }

left-load :
    map (after_load (host no_calls) (codes "a")) (Ok TooLong ∷ Err Failed ∷ Err Memory ∷ [])
    ≡ asked (counted no_calls) ∷ asked (with_fault (counted no_calls)) ∷ host no_calls ∷ []
left-load = refl

left-store :
    map (after_store (host no_calls) (codes "a") (codes "ho")) (Err Failed ∷ Err Memory ∷ [])
    ≡ asked (with_fault (counted no_calls)) ∷ host no_calls ∷ []
left-store = refl

-- a store replaces the file
abbrev stored : HostState
stored = after_store (host no_calls) (codes "a") (codes "ho") (Ok tt)

left-stored : stored ≡ record (asked (counted no_calls)) { files = insert files (codes "a") (codes "ho") }
left-stored = refl

stored-is : get stored.files (codes "a") ≡ Some (codes "ho")
stored-is = get-insert nat_list_cmp_total files (codes "a") (codes "ho") (codes "a")

stored-other : get stored.files (codes "b") ≡ None
stored-other = get-insert nat_list_cmp_total files (codes "a") (codes "ho") (codes "b") ∙ b-is

-- ---- a sink that has two bytes, with a limit or without

abbrev filled : List ℕ → CallCounts → Option ℕ → (shortages : ℕ) → SinkState
filled bytes calls most shortages = record { bytes = bytes; calls = calls; most = most; shortages = shortages }

abbrev answer : Option ℕ → List ℕ → Result ℕ SinkError
answer most piece = write_answer (filled (codes "ab") no_calls most 0) piece

takes : (answer None (codes "hello") ∷ answer (Some 3) (codes "hello") ∷ answer (Some 9) (codes "hello") ∷ answer (Some 3) [] ∷ []) ≡ Ok 5 ∷ Ok 3 ∷ Ok 5 ∷ Ok 0 ∷ []
takes = rw never refl

takes-failing : write_answer (filled (codes "ab") (with_failing no_calls 0) None 0) (codes "hello") ≡ Err sink.Failed
takes-failing = rw first refl

-- part of a piece is taken; a failure is a fault; and out of memory is a shortage, and no call
left-write :
    map (after_write (filled (codes "ab") no_calls (Some 3) 0) (codes "hello")) (Ok 3 ∷ Err sink.Failed ∷ Err sink.Memory ∷ [])
    ≡ filled (codes "abhel") (counted no_calls) (Some 3) 0
    ∷ filled (codes "ab") (with_fault (counted no_calls)) (Some 3) 0
    ∷ filled (codes "ab") no_calls (Some 3) 1
    ∷ []
left-write = refl
