-- Memory commands by computation, a row each (request [8]). Assumes nothing.
use mathlib.Core.Path.{◌≡◌, refl}
use mathlib.Core.List.{List, [], ◌∷◌, ◌++◌}
use Prim.Native.Nat.{ℕ, ◌+◌, ◌-◌, ◌*◌, ◌^◌}
use lib.ListN.{replicate}
use Rattle.octets.specs.Octets.{part, put, number, bytes, zeros}
use Rattle.wire.specs.Completion.{write_completion, post}
use Rattle.ranges.specs.Request.{read_request}
use Rattle.scratch.specs.Calls.{Task, reading, writing, filling, attempt, slices, ended, memory_call}

-- to unfold it is to unfold all that a memory command computes with
unfoldable pub on_calls : Unit {0}
unfolding memory_call attempt read_request write_completion part put number
on_calls = tt

-- an entry with command identifier 7, and rubbish where nothing is read
abbrev pub entry : ℕ → ℕ → ℕ → List ℕ
entry id start len = replicate 2 0xee ++ bytes 2 7 ++ bytes 4 id ++ replicate 32 0xee ++ bytes 8 start ++ bytes 4 len ++ replicate 12 0xee

-- the completion of number 7 with head 3, queue 4 and phase 5, which counts as 1
abbrev completion : ℕ → List ℕ
completion status = zeros 8 ++ (3 ∷ 0 ∷ 4 ∷ 0 ∷ 7 ∷ 0 ∷ []) ++ bytes 2 (1 + 2 * status)

-- on memory 9: a command with its id, start, length, data buffer and memory; the status, and what the two then hold
record Case : Type 0 where
  task : Task
  id : ℕ
  start : ℕ
  len : ℕ
  buffer : List ℕ
  memory : List ℕ
  status : ℕ
  buffer_after_law : List ℕ
  memory_after_law : List ℕ

abbrev case : Task → ℕ → ℕ → ℕ → List ℕ → List ℕ → ℕ → List ℕ → List ℕ → Case
case t i s n b m st c l =
    record { task = t; id = i; start = s; len = n; buffer = b; memory = m; status = st; buffer_after_law = c; memory_after_law = l }

abbrev Right : List Case → Type 0
Right [] = Unit {0}
Right (k ∷ ks) =
    (memory_call k.task (post 3 4 5) 9 (entry k.id k.start k.len) (slices (zeros 16) k.buffer k.memory)
    ≡ ended 0 (slices (completion k.status) k.buffer_after_law k.memory_after_law))
    × Right ks

-- twelve bytes of memory, and six of data
abbrev M : List ℕ
M = 10 ∷ 11 ∷ 12 ∷ 13 ∷ 14 ∷ 15 ∷ 16 ∷ 17 ∷ 18 ∷ 19 ∷ 20 ∷ 21 ∷ []

abbrev B : List ℕ
B = 1 ∷ 2 ∷ 3 ∷ 4 ∷ 5 ∷ 6 ∷ []

-- four bytes of B in the middle of M
abbrev W : List ℕ
W = 10 ∷ 11 ∷ 12 ∷ 13 ∷ 1 ∷ 2 ∷ 3 ∷ 4 ∷ 18 ∷ 19 ∷ 20 ∷ 21 ∷ []

-- a refusal leaves both
abbrev no : Task → ℕ → ℕ → ℕ → List ℕ → ℕ → Case
no t i s n b st = case t i s n b M st b M

abbrev cases : List Case
cases =
    case writing 9 4 4 B M 0x00 B W
    ∷ case reading 9 4 4 (90 ∷ 91 ∷ 92 ∷ 93 ∷ 94 ∷ []) W 0x00 (1 ∷ 2 ∷ 3 ∷ 4 ∷ 94 ∷ []) W
    ∷ case (filling 0x11223344) 9 0 8 [] M 0x00 [] (0x44 ∷ 0x33 ∷ 0x22 ∷ 0x11 ∷ 0x44 ∷ 0x33 ∷ 0x22 ∷ 0x11 ∷ 18 ∷ 19 ∷ 20 ∷ 21 ∷ [])
    ∷ case reading 9 0 12 (replicate 12 0) M 0x00 M M
    -- length 0, at the start, at the very end and behind it; on no memory at all
    ∷ case reading 9 0 0 B M 0x00 B M
    ∷ case writing 9 12 0 B M 0x00 B M
    ∷ case (filling 7) 9 12 0 [] M 0x00 [] M
    ∷ no reading 9 16 0 B 0x80
    ∷ case (filling 7) 9 0 0 [] [] 0x00 [] []
    -- one word past the end; sums that 32 and 64 bits do not hold
    ∷ no reading 9 12 4 B 0x80
    ∷ no (filling 7) 9 4 12 [] 0x80
    ∷ no writing 9 (2 ^ 32 - 4) 4 B 0x80
    ∷ no writing 9 4 (2 ^ 32 - 4) B 0x80
    ∷ no writing 9 (2 ^ 64 - 4) 4 B 0x80
    ∷ no writing 9 (2 ^ 64 - 4) 8 B 0x80
    -- each row before the next: 0Bh, 02h for the start and for the length, 80h, 04h
    ∷ no reading 8 1 1 B 0x0b
    ∷ no reading 9 (2 ^ 64 - 1) 4 B 0x02
    ∷ no writing 9 12 6 B 0x02
    ∷ no (filling 7) 9 2 0 [] 0x02
    ∷ no reading 9 8 8 B 0x80
    ∷ no reading 9 4 8 B 0x04
    ∷ no writing 9 4 8 B 0x04
    -- Fill wants no data buffer
    ∷ case (filling 0) 9 8 4 [] M 0x00 [] (part 0 8 M ++ zeros 4)
    ∷ []

all_right : Right cases
unfolding on_calls
all_right = (
  refl,
  (
    refl,
    (
      refl,
      (
        refl,
        (
          refl,
          (
            refl,
            (
              refl,
              (
                refl,
                (
                  refl,
                  (
                    refl,
                    (
                      refl,
                      (
                        refl,
                        (refl, (refl, (refl, (refl, (refl, (refl, (refl, (refl, (refl, (refl, (refl, tt))))))))))),
                      ),
                    ),
                  ),
                ),
              ),
            ),
          ),
        ),
      ),
    ),
  ),
)

-- ---- numbers, with all else wrong that a later row could name; nothing is written

abbrev Refuses : ℕ → List ℕ → List ℕ → List ℕ → Type 0
Refuses n e c m = memory_call writing (post 3 4 5) 9 e (slices c B m) ≡ ended n (slices c B m)

numbers_first :
    Refuses 1 (part 0 63 (entry 8 1 1)) (zeros 15) (zeros 6)
    × Refuses 1 (entry 8 1 1 ++ zeros 1) (zeros 16) (zeros 8)
    × Refuses 2 (entry 8 1 1) (zeros 15) (zeros 6)
    × Refuses 2 (entry 9 0 4) (zeros 17) (zeros 8)
    × Refuses 20 (entry 8 1 1) (zeros 16) (zeros 6)
    × Refuses 20 (entry 9 0 4) (zeros 16) (zeros 65540)
unfolding on_calls
numbers_first = (refl, refl, refl, refl, refl, refl)

largest : (memory_call (filling 1) (post 0 0 0) 9 (entry 9 65532 4) (slices (zeros 16) [] (zeros 65536))).number ≡ 0
unfolding on_calls
largest = refl
