-- Pages read back by computation, and the devices that the promises tell from the module (request [2]). Assumes nothing.
use mathlib.Core.Path.{◌≡◌, refl, ap}
use mathlib.Core.List.{List, [], ◌∷◌, ◌++◌}
use Prim.Native.Nat.{ℕ}
use native.Mathlib.Omega.{arith}
use lib.ListN.{replicate}
use Rattle.octets.specs.Octets.{part, number, zeros}
use Rattle.sheets.specs.Identify.{descriptor, front, identify_page, limits_in, limits_at}
use Rattle.store.specs.Namespace.{fresh}
use Rattle.maps.specs.Describe.{described, describe}
use Rattle.memory.specs.Memory.{memory}
use Rattle.formatting.specs.Formatting.{format_steps, format}
use Rattle.identify.specs.Identify.{page_of, identify, create}
use Rattle.module.specs.History.{fields, Call, run, status}
use Rattle.host.specs.declared.identities.Identity.{Identity}
use Rattle.host.specs.Identity.{identity}
use Rattle.promises.specs.Histories.{Start, begun, memory_after}
use Rattle.promises.specs.Requests.{call}
use Rattle.promises.proofs.Examples.{on_memory, start_two, two_begun, A, store, exist}
use Rattle.drivers.specs.Pages.{ReadsHistory, elsewhere, fifteen}
use Rattle.drivers.proofs.Pages.{reads_legal, reads_history, refused_alike, unheld}

-- to unfold it is to unfold all that a page computes with
unfoldable on_page : Unit {0}
unfolding identify_page front descriptor part number identity limits_at limits_in
on_page = tt

-- a slice for a page
abbrev blank : List ℕ
blank = replicate 4096 7

-- ---- the page of an empty namespace of format 3

abbrev empty : List ℕ
empty = page_of (described (fresh 3 1 4096))

-- to the end of the second descriptor
empty_begins : part 0 104 empty
    ≡ 0x00 ∷ 0x10 ∷ zeros 23 ++ 0x0f ∷ zeros 3 ++ 0x03 ∷ zeros 42
    ++ 0x04 ∷ 0 ∷ 0 ∷ 0 ∷ 0x40 ∷ 0 ∷ 0 ∷ 0 ∷ 0x00 ∷ 0x04 ∷ 0 ∷ 0 ∷ zeros 4
    ++ 0x08 ∷ 0 ∷ 0 ∷ 0 ∷ 0x40 ∷ 0 ∷ 0 ∷ 0 ∷ 0x00 ∷ 0x04 ∷ 0 ∷ 0 ∷ zeros 4
unfolding on_page
empty_begins = refl

empty_read : identity empty 3 ≡ record { number = 0; formats = 16; index = 3; keymax = 16; valuemax = 64; maxkeys = 1024; size = 4096; used = 0 }
unfolding on_page
empty_read = refl

-- ---- another's page: 256 formats, of which 251 have room, and rubbish above the index

abbrev foreign : List ℕ
foreign = replicate 25 0x11 ++ 0xff ∷ replicate 3 0x11 ++ 0xf5 ∷ replicate 4066 0x11

abbrev foreign_says : ℕ → ℕ → ℕ → Identity
foreign_says k v n =
    let wide : ℕ = 0x1111_1111_1111_1111 in
    record { number = 0; formats = 256; index = 5; keymax = k; valuemax = v; maxkeys = n; size = wide; used = wide }

foreign_read : (identity foreign 250 ≡ foreign_says 0x1111 0x1111_1111 0x1111_1111) × (identity foreign 251 ≡ foreign_says 0 0 0)
unfolding on_page
foreign_read = (refl, refl)

-- ---- legal memory: two namespaces, both empty

legal_read : identity (identify 2 blank (begun (start_two 7)).after).page 3
    ≡ record { number = 0; formats = 16; index = 15; keymax = 16; valuemax = 64; maxkeys = 1024; size = 64; used = 0 }
unfolding on_memory
legal_read = (reads_legal (begun (start_two 7)).after 2 blank refl refl refl).page 3

-- ---- a history: A stored in the first of two

abbrev calls : List Call
calls = call (store A (5 ∷ [])) ∷ []

first_read : identity (identify 1 blank (memory_after (start_two 7) calls)).page 15
    ≡ record { number = 0; formats = 16; index = 15; keymax = 16; valuemax = 4096; maxkeys = 16; size = 64; used = 2 }
unfolding on_memory
first_read = (reads_history (start_two 7) calls 1 blank (two_begun 7) refl refl refl).page 15

second_read : identity (identify 2 blank (memory_after (start_two 7) calls)).page 16
    ≡ record { number = 0; formats = 16; index = 15; keymax = 0; valuemax = 0; maxkeys = 0; size = 64; used = 0 }
unfolding on_memory
second_read = (reads_history (start_two 7) calls 2 blank (two_begun 7) refl refl refl).page 16

third_unheld : identify 3 blank (memory_after (start_two 7) calls) ≡ record { number = 23; page = blank }
unfolding on_memory
third_unheld = unheld (start_two 7) calls 3 blank (two_begun 7) refl refl

-- ---- memory that is not legal: no bytes at all

none_legal : (identify 1 blank (memory [] [])).number ≡ 18
unfolding on_memory describe identify
none_legal = refl

none_served : status (run (memory [] []) (call (exist A))) ≡ 0x06
unfolding on_memory
none_served =
    let r = exist A in
    (refused_alike 1 blank (memory [] []) r.post r.entry r.completion r.buffer refl refl).0 none_legal

-- ---- a history that begins with fields: format 15 and size 64 with rubbish in all other bytes and bits

abbrev created : Start
created =
    record {
      layout = fields (0x40 ∷ zeros 7 ++ replicate 23 0xee ++ 0xef ∷ replicate 480 0xee) 1;
      lent = memory (replicate 577 7) (replicate 65 7);
    }

created_begun : (begun created).number ≡ 0
unfolding create format format_steps part number
created_begun = refl

created_read : identity (identify 1 blank (memory_after created calls)).page 0
    ≡ record { number = 0; formats = 16; index = 15; keymax = 4; valuemax = 64; maxkeys = 1024; size = 64; used = 2 }
unfolding on_memory create
created_read = (reads_history created calls 1 blank created_begun refl refl refl).page 0

-- ---- the devices that are not the module

-- the used room of the other namespace
elsewhere_rejected : ReadsHistory (elsewhere 1) → ⊥
unfolding on_memory on_page describe
elsewhere_rejected h = let e = ap (λ (i : Identity). i.used) ((h (start_two 7) calls 2 blank (two_begun 7) refl refl refl).page 0) in omega (arith, e)

fifteen_rejected : ReadsHistory fifteen → ⊥
unfolding on_memory on_page describe
fifteen_rejected h = let e = ap (λ (i : Identity). i.formats) ((h (start_two 7) [] 2 blank (two_begun 7) refl refl refl).page 0) in omega (arith, e)
