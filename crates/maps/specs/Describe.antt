-- What a namespace is, for the calls that tell it. Assumes nothing.
use Rattle.std.specs.Prelude.{cond, ℕ, eqb, length, Result, Ok, Err}
use Rattle.refusals.specs.declared.numbers.Refusal.{Refusal}
use Rattle.refusals.specs.Refusals.{number_of}
use Rattle.store.specs.Maps.{used}
use Rattle.store.specs.Namespace.{Namespace}
use Rattle.memory.specs.Namespaces.{held, at}
use Rattle.memory.specs.Memory.{Memory, namespaces_of, legal}
use Rattle.maps.specs.declared.describes.Description.{Description}

-- a number, and what a namespace is; beside a number other than 0 the rest is 0
pub record Described : Type 0 where
  pub number : ℕ
  pub index : ℕ
  pub size : ℕ
  pub used : ℕ
  pub keys : ℕ

-- its format and size, its used room and how many keys it has
abbrev pub described : Namespace → Described
described s = record { number = 0; index = s.index; size = s.size; used = used s.pairs; keys = length s.pairs }

-- a number, and zeros beside it
abbrev pub undescribed : ℕ → Described
undescribed n = record { number = n; index = 0; size = 0; used = 0; keys = 0 }

-- what s is for one who names n: 23 where that is not its id
abbrev pub described_as : ℕ → Namespace → Described
described_as n s = cond (eqb n s.id) (described s) (undescribed 23)

-- number 18 where memory is not legal, then 23 where the id names none
unfoldable pub describe : ℕ → Memory → Described
describe id m = cond (legal m) (cond (held id (namespaces_of m)) (described (at id (namespaces_of m))) (undescribed 23)) (undescribed 18)

-- what an outcome tells
abbrev pub told : Result Description Refusal → Described
told (Ok d) = record { number = 0; index = d.index; size = d.size; used = d.used; keys = d.keys }
told (Err r) = undescribed (number_of r)
