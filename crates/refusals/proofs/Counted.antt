-- No refusal has the number 0, and no two have the same.
use Rattle.std.specs.Prelude.{◌≡◌, refl, ℕ, cond, false, eqb}
use mathlib.Core.Path.{sym, ap, ◌∙◌}
use Rattle.refusals.specs.Refusals.{number_of, code_of}
use Rattle.refusals.specs.declared.numbers.Refusal.{Refusal}
use Rattle.refusals.specs.declared.numbers.Refusal.TheVariants.{EntryLength, CompletionLength, FormatIndex, NamespaceId, Size, SliceLength}
use Rattle.refusals.specs.declared.numbers.Refusal.TheVariants.{PageLength, PageEntry, PageKeyLength, PagePadding, PageOrder}
use Rattle.refusals.specs.declared.numbers.Refusal.TheVariants.{BuildKey, BuildOpcode, BytesLength, KeyLength, Illegal, EqualIds, MemoryLength, NotHeld}
use Rattle.refusals.specs.declared.statuses.Status.{Status}
use Rattle.refusals.specs.declared.statuses.Status.TheVariants.{InvalidOpcode, InvalidField, DataTransfer, Internal, InvalidNamespace, OutOfRange}
use Rattle.refusals.specs.declared.statuses.Status.TheVariants.{Capacity, ValueSize, KeySize, KeyAbsent, KeyExists}

pub number_counts : (r : Refusal) → eqb (number_of r) 0 ≡ false
number_counts EntryLength = refl
number_counts CompletionLength = refl
number_counts FormatIndex = refl
number_counts NamespaceId = refl
number_counts Size = refl
number_counts SliceLength = refl
number_counts PageLength = refl
number_counts PageEntry = refl
number_counts PageKeyLength = refl
number_counts PagePadding = refl
number_counts PageOrder = refl
number_counts BuildKey = refl
number_counts BuildOpcode = refl
number_counts BytesLength = refl
number_counts KeyLength = refl
number_counts Illegal = refl
number_counts EqualIds = refl
number_counts MemoryLength = refl
number_counts NotHeld = refl

-- the refusal of a number
abbrev refusal_of : ℕ → Refusal
refusal_of n =
    cond (eqb n 1) EntryLength (
    cond (eqb n 2) CompletionLength (
    cond (eqb n 3) FormatIndex (
    cond (eqb n 4) NamespaceId (
    cond (eqb n 5) Size (
    cond (eqb n 6) SliceLength (
    cond (eqb n 7) PageLength (
    cond (eqb n 8) PageEntry (
    cond (eqb n 9) PageKeyLength (
    cond (eqb n 10) PagePadding (
    cond (eqb n 11) PageOrder (
    cond (eqb n 12) BuildKey (
    cond (eqb n 13) BuildOpcode (
    cond (eqb n 14) BytesLength (
    cond (eqb n 15) KeyLength (
    cond (eqb n 18) Illegal (
    cond (eqb n 19) EqualIds (
    cond (eqb n 20) MemoryLength NotHeld)))))))))))))))))

refusal_back : (r : Refusal) → refusal_of (number_of r) ≡ r
refusal_back EntryLength = refl
refusal_back CompletionLength = refl
refusal_back FormatIndex = refl
refusal_back NamespaceId = refl
refusal_back Size = refl
refusal_back SliceLength = refl
refusal_back PageLength = refl
refusal_back PageEntry = refl
refusal_back PageKeyLength = refl
refusal_back PagePadding = refl
refusal_back PageOrder = refl
refusal_back BuildKey = refl
refusal_back BuildOpcode = refl
refusal_back BytesLength = refl
refusal_back KeyLength = refl
refusal_back Illegal = refl
refusal_back EqualIds = refl
refusal_back MemoryLength = refl
refusal_back NotHeld = refl

pub number_one : (r s : Refusal) → number_of r ≡ number_of s → r ≡ s
number_one r s e = sym (refusal_back r) ∙ ap refusal_of e ∙ refusal_back s

pub code_counts : (s : Status) → eqb (code_of s) 0 ≡ false
code_counts InvalidOpcode = refl
code_counts InvalidField = refl
code_counts DataTransfer = refl
code_counts Internal = refl
code_counts InvalidNamespace = refl
code_counts OutOfRange = refl
code_counts Capacity = refl
code_counts ValueSize = refl
code_counts KeySize = refl
code_counts KeyAbsent = refl
code_counts KeyExists = refl

-- the one that has the code
abbrev status_of : ℕ → Status
status_of n =
    cond (eqb n 0x01) InvalidOpcode (
    cond (eqb n 0x02) InvalidField (
    cond (eqb n 0x04) DataTransfer (
    cond (eqb n 0x06) Internal (
    cond (eqb n 0x0b) InvalidNamespace (
    cond (eqb n 0x80) OutOfRange (
    cond (eqb n 0x81) Capacity (
    cond (eqb n 0x85) ValueSize (
    cond (eqb n 0x86) KeySize (
    cond (eqb n 0x87) KeyAbsent KeyExists)))))))))

status_back : (s : Status) → status_of (code_of s) ≡ s
status_back InvalidOpcode = refl
status_back InvalidField = refl
status_back DataTransfer = refl
status_back Internal = refl
status_back InvalidNamespace = refl
status_back OutOfRange = refl
status_back Capacity = refl
status_back ValueSize = refl
status_back KeySize = refl
status_back KeyAbsent = refl
status_back KeyExists = refl

pub code_one : (s t : Status) → code_of s ≡ code_of t → s ≡ t
code_one s t e = sym (status_back s) ∙ ap status_of e ∙ status_back t
