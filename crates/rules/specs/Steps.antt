-- The module's statuses: the table of steps a to j (docs/MANUAL.md, section 7), row by row and in its order. Beside the command the steps to
-- h look at a `View` and the later ones at a `Stock`. Assumes nothing.
use Rattle.std.specs.Prelude.{Bool, not, ◌&&◌, ◌||◌, List, [], ◌∷◌, ◌++◌, ℕ, ◌+◌, ◌-◌, length, leb, ltb, eqb}
use Rattle.keys.specs.Keys.{Key}
use Rattle.octets.specs.Tests.{Row, row, first_of}
use Rattle.refusals.specs.Refusals.{code_of}
use Rattle.wire.specs.declared.entries.Command.{Command}
use Rattle.wire.specs.Entry.{key_of, stale, is_store, is_retrieve, is_list, is_delete, is_exist, known, if_present, if_absent}
use Rattle.rules.specs.declared.steps.View.{View}
use Rattle.rules.specs.declared.steps.Stock.{Stock}
use Rattle.rules.specs.declared.steps.Row.{Row as CodeRow}
use Rattle.table.specs.Formats.{format_of}
use Rattle.store.specs.Maps.{present, used, held_room}
use Rattle.store.specs.Namespace.{Namespace}

-- a row of the code's table
abbrev pub row_of : CodeRow → Row
row_of r = row r.0 (code_of r.1)

-- what is asked of a command before its key is looked for
abbrev pub steps_to_h : View → Command → List Row
steps_to_h v c =
    let op = c.opcode in
    let f = v.format in
    -- a
    row (not v.legal) 0x06
    -- b
    ∷ row (not (known op)) 0x01
    -- c
    ∷ row (not (eqb c.fused 0)) 0x02
    -- d
    ∷ row (not (eqb c.nsid v.id)) 0x0b
    -- e
    ∷ row (ltb 16 c.len) 0x02
    -- e, of what stands behind the key
    ∷ row (stale c) 0x02
    -- f
    ∷ row (ltb f.keymax c.len || eqb c.len 0 && not (is_list op)) 0x86
    -- g, of a Store
    ∷ row (is_store op && ltb f.valuemax c.amount) 0x85
    -- g, of a List
    ∷ row (is_list op && ltb c.amount 4) 0x02
    -- h
    ∷ row ((is_store op || is_retrieve op || is_list op) && ltb v.room c.amount) 0x04
    ∷ []

-- no such key, or the key is there
abbrev pub step_i : Stock → Command → List Row
step_i u c =
    row ((is_retrieve c.opcode || is_delete c.opcode || is_exist c.opcode || if_present c) && not u.held) 0x87
    ∷ row (if_absent c && u.held) 0x89
    ∷ []

-- no slot left, or no room once the old pair is taken off
abbrev pub step_j : Stock → Command → List Row
step_j u c =
    row (is_store c.opcode && (not u.held && leb u.maxkeys u.count || ltb u.size (u.used - u.old + c.len + c.amount))) 0x81
    ∷ []

-- what is asked once the key was looked for
abbrev pub steps_from_i : Stock → Command → List Row
steps_from_i u c = step_i u c ++ step_j u c

unfoldable pub steps : View → Stock → Command → List Row
steps v u c = steps_to_h v c ++ steps_from_i u c

-- of a namespace, with a data buffer of n bytes
abbrev pub view_of : Bool → Namespace → ℕ → View
view_of legal s n = record { legal = legal; format = format_of s.index; id = s.id; room = n }

-- of a namespace and a key
abbrev pub stock_of : Namespace → Key → Stock
stock_of s k =
    record {
      held = present k s.pairs;
      old = held_room k s.pairs;
      used = used s.pairs;
      count = length s.pairs;
      maxkeys = (format_of s.index).maxkeys;
      size = s.size;
    }

unfoldable pub status_of : Bool → Namespace → Command → ℕ → ℕ
status_of legal s c n = first_of (steps (view_of legal s n) (stock_of s (key_of c)) c)
