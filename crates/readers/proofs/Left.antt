-- Calls that do not format and tell the same to be stored leave the same bytes, those past the needed part too. Assumes nothing.
use mathlib.Core.Path.{◌≡◌, sym, ap, ◌∙◌}
use mathlib.Core.Bool.{true}
use mathlib.Core.List.{List, ◌++◌}
use Prim.Native.Nat.{ℕ, ◌+◌, ◌*◌}
use lib.ListN.{drop}
use Rattle.store.specs.Namespace.{Namespace}
use Rattle.memory.specs.Namespaces.{total, slots_of, size_of}
use Rattle.memory.specs.Memory.{Memory, memory, needed, needed_values, directory_of, values_of}
use Rattle.memory.proofs.ImageLaws.{Holds, directory_split, values_split}
use Rattle.commands.proofs.CommandLaws.{Kept}
use Rattle.module.specs.History.{Call, leaves, stored, formats}
use Rattle.module.proofs.HistoryLaws.{told_calls}
use Rattle.promises.specs.Histories.{never}
use Rattle.promises.proofs.History.{stay}

-- the image of ts, and behind it what m has past the needed part of ss
abbrev over : List Namespace → Memory → List Namespace → Memory
over ss m ts = memory (directory_of ts ++ drop (needed ss) m.directory) (values_of ts ++ drop (needed_values ss) m.values)

left_is : (ss ts : List Namespace) (m k : Memory) → Holds ts k → Kept ss m k → total slots_of ts ≡ total slots_of ss → total size_of ts ≡ total size_of ss
    → k ≡ over ss m ts
left_is ss ts m k h p e f =
    let d = directory_split h ∙ ap (λ (l : List ℕ). directory_of ts ++ l) (ap (λ (n : ℕ). drop (64 + 32 * n) k.directory) e ∙ p.directory) in
    let v = values_split h ∙ ap (λ (l : List ℕ). values_of ts ++ l) (ap (λ (n : ℕ). drop n k.values) f ∙ p.values) in
    λ i. memory (d i) (v i)

pub same_left : (ss : List Namespace) (m : Memory) (xs ys : List Call) → Holds ss m → never formats m xs ≡ true → never formats m ys ≡ true
    → stored ss m xs ≡ stored ss m ys → leaves m xs ≡ leaves m ys
same_left ss m xs ys h n k e =
    let p = stay ss m xs h n in
    let q = stay ss m ys h k in
    left_is ss (stored ss m xs) m (leaves m xs) (told_calls ss m xs h) p.0 p.1 p.2
    ∙ ap (over ss m) e
    ∙ sym (left_is ss (stored ss m ys) m (leaves m ys) (told_calls ss m ys h) q.0 q.1 q.2)
