-- A farm's own calls on its own map, with no memory and no other farm. Assumes nothing.
use Rattle.std.specs.Prelude.{true, cond, List, [], ◌∷◌, ℕ, eqb}
use Rattle.octets.specs.Tests.{first_of}
use Rattle.wire.specs.Entry.{read_command, not_entry}
use Rattle.wire.specs.Completion.{read_completion, not_completion}
use Rattle.store.specs.Namespace.{Namespace, with_pairs}
use Rattle.commands.specs.Answer.{answer}
use Rattle.room.specs.Room.{filled_by}
use Rattle.module.specs.History.{filled, tell}
use Rattle.farms.specs.Sides.{Ask, sends, poses, Seen, answered, learnt, Side, before}

-- numbers 1 and 2
abbrev pub refusal : List ℕ → List ℕ → ℕ
refusal e c = first_of (not_entry e ∷ not_completion c ∷ [])

-- the answer on the map; where a number refuses, completion and data buffer as lent
abbrev pub meets : Namespace → Ask → Seen
meets s (sends e c b) =
    let k = refusal e c in
    let a = answer true s (read_command e) b in
    let l = read_completion c in
    cond (eqb k 0) (answered 0 a.status a.dword0 a.buffer) (answered k l.status l.dword0 b)
meets s (poses q) = learnt (tell s q)

abbrev pub after : Namespace → Ask → Namespace
after s (sends e c b) = cond (eqb (refusal e c) 0) (with_pairs s (answer true s (read_command e) b).pairs) s
after s (poses q) = s

abbrev pub alone : Namespace → List Ask → Side
alone s [] = record { shown = []; room = filled (filled_by s.pairs) }
alone s (x ∷ xs) = before (meets s x ∷ []) (alone (after s x) xs)
