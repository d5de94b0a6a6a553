-- A number tells which refusal it is of, and so what a contract says of a result by its number leaves one result. Assumes nothing.
use mathlib.Core.Path.{◌≡◌, refl, sym, ap, ap₂, ◌∙◌}
use Prim.Native.Nat.{ℕ}
use borrow.Author.Tests.{eqb-false}
use Rattle.std.specs.Prelude.{cond, eqb, Result, Ok, Err, IfOk}
use Rattle.refusals.specs.Refusals.{number_of, number_in, code_of, code_in}
use Rattle.refusals.proofs.Counted.{number_counts, number_one, code_counts, code_one}
use Rattle.refusals.specs.declared.numbers.Refusal.{Refusal}
use Rattle.refusals.specs.declared.statuses.Status.{Status}
use Rattle.maps.specs.declared.describes.Description.{Description}
use Rattle.maps.specs.Describe.{Described, told}
use Rattle.octets.proofs.TestLaws.{contrary}
use Rattle.wire.specs.declared.entries.Opcode.{Opcode}
use Rattle.wire.specs.declared.entries.Opcode.TheVariants.{Store, Retrieve, List, Delete, Exist}
use Rattle.wire.specs.declared.entries.UnknownOpcode.{UnknownOpcode}
use Rattle.wire.specs.Entry.{byte_of, known, Names}
use Rattle.wire.proofs.EntryLaws.{known_byte}
use Rattle.quick.specs.declared.heads.Span.{Span}
use Rattle.quick.specs.Heads.{Run, run_in}

counts : (r : Refusal) → 0 ≡ number_of r → ⊥
counts r e = eqb-false (number_of r) 0 (number_counts r) (sym e)

-- by its number, and by what stands in an `Ok`
pub result_one : {A : Type 0} (d : A) {n : ℕ} (x y : Result A Refusal) → number_in x ≡ n → IfOk x (λ a. a ≡ d) → number_in y ≡ n → IfOk y (λ a. a ≡ d) → x ≡ y
result_one d (Ok a) (Ok b) p i q j = ap Ok (i ∙ sym j)
result_one d (Ok a) (Err s) p i q j = absurd (counts s (p ∙ sym q))
result_one d (Err r) (Ok b) p i q j = absurd (counts r (q ∙ sym p))
result_one d (Err r) (Err s) p i q j = ap Err (number_one r s (p ∙ sym q))

-- where nothing stands in an `Ok`
pub done_one : (x y : Result (Unit {0}) Refusal) → number_in x ≡ number_in y → x ≡ y
done_one x y e = result_one tt x y e (done x) refl (done y)
  where
    done : (z : Result (Unit {0}) Refusal) → IfOk z (λ a. a ≡ tt)
    done (Ok a) = refl
    done (Err r) = tt

-- by the run that it says
pub run_one : {d : Run} (x y : Result Span Refusal) → run_in x ≡ d → run_in y ≡ d → x ≡ y
run_one (Ok s) (Ok t) p q =
    let e = p ∙ sym q in
    ap₂ (λ (first count : ℕ). Ok (record { first = first; count = count })) (ap (λ (r : Run). r.first) e) (ap (λ (r : Run). r.count) e)
run_one (Ok s) (Err b) p q = absurd (counts b (ap (λ (r : Run). r.number) (p ∙ sym q)))
run_one (Err a) (Ok t) p q = absurd (counts a (ap (λ (r : Run). r.number) (q ∙ sym p)))
run_one (Err a) (Err b) p q = ap Err (number_one a b (ap (λ (r : Run). r.number) (p ∙ sym q)))

-- by its code
pub coded : (x y : Result (Unit {0}) Status) → code_in x ≡ code_in y → x ≡ y
coded (Ok a) (Ok b) e = refl
coded (Ok a) (Err t) e = absurd (eqb-false (code_of t) 0 (code_counts t) (sym e))
coded (Err s) (Ok b) e = absurd (eqb-false (code_of s) 0 (code_counts s) e)
coded (Err s) (Err t) e = ap Err (code_one s t e)

-- by what is told of a namespace
pub told_one : (x y : Result Description Refusal) → told x ≡ told y → x ≡ y
told_one (Ok a) (Ok b) e = ap Ok (λ i. record { index = (e i).index; size = (e i).size; used = (e i).used; keys = (e i).keys })
told_one (Ok a) (Err s) e = absurd (counts s (ap (λ (d : Described). d.number) e))
told_one (Err r) (Ok b) e = absurd (counts r (sym (ap (λ (d : Described). d.number) e)))
told_one (Err r) (Err s) e = ap Err (number_one r s (ap (λ (d : Described). d.number) e))

-- the one that has the byte
abbrev opcode_of : ℕ → Opcode
opcode_of n = cond (eqb n 0x01) Store (cond (eqb n 0x02) Retrieve (cond (eqb n 0x06) List (cond (eqb n 0x10) Delete Exist)))

opcode_back : (o : Opcode) → opcode_of (byte_of o) ≡ o
opcode_back Store = refl
opcode_back Retrieve = refl
opcode_back List = refl
opcode_back Delete = refl
opcode_back Exist = refl

-- by the byte that it stands for
pub names_one : (n : ℕ) (x y : Result Opcode UnknownOpcode) → Names n x → Names n y → x ≡ y
names_one n (Ok o) (Ok p) e f = ap Ok (sym (opcode_back o) ∙ ap opcode_of (e ∙ sym f) ∙ opcode_back p)
names_one n (Ok o) (Err t) e f = absurd (contrary (sym f ∙ sym (ap known e) ∙ known_byte o))
names_one n (Err s) (Ok p) e f = absurd (contrary (sym e ∙ sym (ap known f) ∙ known_byte p))
names_one n (Err s) (Err t) e f = refl
