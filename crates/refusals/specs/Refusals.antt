-- The numbers that stand for the refusals, and what an outcome says in numbers: 0 where there is none. Assumes nothing.
use Rattle.std.specs.Prelude.{ℕ, Result, Ok, Err}
use Rattle.refusals.specs.declared.numbers.Refusal.{Refusal}
use Rattle.refusals.specs.declared.numbers.Refusal.TheVariants.{EntryLength, CompletionLength, FormatIndex, NamespaceId, Size, SliceLength}
use Rattle.refusals.specs.declared.numbers.Refusal.TheVariants.{PageLength, PageEntry, PageKeyLength, PagePadding, PageOrder}
use Rattle.refusals.specs.declared.numbers.Refusal.TheVariants.{BuildKey, BuildOpcode, BytesLength, KeyLength, Illegal, EqualIds, MemoryLength, NotHeld}
use Rattle.refusals.specs.declared.statuses.Status.{Status}
use Rattle.refusals.specs.declared.statuses.Status.TheVariants.{InvalidOpcode, InvalidField, DataTransfer, Internal, InvalidNamespace, OutOfRange}
use Rattle.refusals.specs.declared.statuses.Status.TheVariants.{Capacity, ValueSize, KeySize, KeyAbsent, KeyExists}

abbrev pub number_of : Refusal → ℕ
number_of EntryLength = 1
number_of CompletionLength = 2
number_of FormatIndex = 3
number_of NamespaceId = 4
number_of Size = 5
number_of SliceLength = 6
number_of PageLength = 7
number_of PageEntry = 8
number_of PageKeyLength = 9
number_of PagePadding = 10
number_of PageOrder = 11
number_of BuildKey = 12
number_of BuildOpcode = 13
number_of BytesLength = 14
number_of KeyLength = 15
number_of Illegal = 18
number_of EqualIds = 19
number_of MemoryLength = 20
number_of NotHeld = 23

abbrev pub number_in : {A : Type 0} → Result A Refusal → ℕ
number_in (Ok a) = 0
number_in (Err r) = number_of r

abbrev pub code_of : Status → ℕ
code_of InvalidOpcode = 0x01
code_of InvalidField = 0x02
code_of DataTransfer = 0x04
code_of Internal = 0x06
code_of InvalidNamespace = 0x0b
code_of OutOfRange = 0x80
code_of Capacity = 0x81
code_of ValueSize = 0x85
code_of KeySize = 0x86
code_of KeyAbsent = 0x87
code_of KeyExists = 0x89

abbrev pub code_in : {A : Type 0} → Result A Status → ℕ
code_in (Ok a) = 0
code_in (Err s) = code_of s
