-- The bench cases P1 to P12 of document 01, P10 as changed by request [1], and those of requests [1], [7], [13] and [14]: one table, and one
-- statement about the definitions. Assumes nothing.
use Rattle.std.specs.Prelude.{◌≡◌, refl, true, List, [], ◌∷◌, ◌++◌, map, ℕ, zero, suc, length, replicate}
use Rattle.octets.specs.Octets.{part, put, number, zeros, filled}
use Rattle.keys.specs.Keys.{Key}
use Rattle.wire.specs.Entry.{read_command, write_command}
use Rattle.sheets.specs.Page.{page_entry, page}
use Rattle.store.specs.Namespace.{Namespace, fresh}
use Rattle.memory.specs.Namespaces.{at, with}
use Rattle.rules.specs.Steps.{steps, status_of}
use Rattle.commands.specs.Answer.{Answer, answer}

-- a 64-byte entry and the data buffer lent with it
pub record Call : Type 0 where
  pub entry : List ℕ
  pub buffer : List ℕ

pub record Seen : Type 0 where
  pub status : ℕ
  pub dword0 : ℕ
  pub buffer : List ℕ

-- a call after others, and what it must give
pub record Try : Type 0 where
  pub before : List Call
  pub call : Call
  pub want : Seen

-- each try begins on the same namespaces
pub record Case : Type 0 where
  pub begin : List Namespace
  pub tries : List Try

abbrev pub answer_to : List Namespace → Call → Answer
answer_to ss x = let c = read_command x.entry in answer true (at c.nsid ss) c x.buffer

abbrev pub after : List Namespace → List Call → List Namespace
after ss [] = ss
after ss (x ∷ xs) = after (with (read_command x.entry).nsid (answer_to ss x).pairs ss) xs

abbrev pub seen : Answer → Seen
seen a = record { status = a.status; dword0 = a.dword0; buffer = a.buffer }

abbrev pub got : Case → List Seen
got c = map (λ (t : Try). seen (answer_to (after c.begin t.before) t.call)) c.tries

abbrev pub wanted : Case → List Seen
wanted c = map (λ (t : Try). t.want) c.tries

-- ---- the words of the table

-- namespace id, opcode op, options o, key bytes k of which l count, and n in Dword 10
abbrev pub call_to : ℕ → ℕ → ℕ → Key → ℕ → ℕ → List ℕ → Call
call_to id op o k l n b =
    record {
      entry = write_command (record { opcode = op; fused = 0; cid = 0; nsid = id; key = filled 16 k; len = l; options = o; amount = n });
      buffer = b;
    }

abbrev pub call : ℕ → ℕ → Key → ℕ → ℕ → List ℕ → Call
call = call_to 1

abbrev pub store_to : ℕ → Key → List ℕ → Call
store_to id k v = call_to id 0x01 0 k (length k) (length v) v

abbrev pub retrieve_to : ℕ → Key → List ℕ → Call
retrieve_to id k b = call_to id 0x02 0 k (length k) (length b) b

abbrev pub list_to : ℕ → List ℕ → Call
list_to id b = call_to id 0x06 0 [] 0 (length b) b

abbrev pub exist_to : ℕ → Key → Call
exist_to id k = call_to id 0x14 0 k (length k) 0 []

abbrev pub store : ℕ → Key → List ℕ → Call
store o k v = call 0x01 o k (length k) (length v) v

abbrev pub retrieve : Key → List ℕ → Call
retrieve k b = call 0x02 0 k (length k) (length b) b

abbrev pub delete : Key → Call
delete k = call 0x10 0 k (length k) 0 []

abbrev pub list : Key → List ℕ → Call
list k b = call 0x06 0 k (length k) (length b) b

-- Exist with a key length of l
abbrev pub exist : ℕ → Call
exist l = call 0x14 0 (replicate l 0x41) l 0 []

abbrev pub A : Key
A = 0x41 ∷ []

abbrev pub B : Key
B = 0x42 ∷ []

abbrev pub AA : Key
AA = 0x41 ∷ 0x41 ∷ []

abbrev pub AB : Key
AB = 0x41 ∷ 0x42 ∷ []

-- n bytes that a case must leave unchanged, or write over
abbrev pub junk : ℕ → List ℕ
junk n = replicate n 0xff

abbrev pub gives : List Call → Call → ℕ → ℕ → List ℕ → Try
gives before x st d b = record { before = before; call = x; want = record { status = st; dword0 = d; buffer = b } }

-- on the empty store of a formatting with id 1
abbrev pub case : ℕ → ℕ → List Try → Case
case i n tries = record { begin = fresh i 1 n ∷ []; tries = tries }

-- of one with ids 1 and 2
abbrev pub cases_of_two : ℕ → ℕ → List Try → Case
cases_of_two i n tries = record { begin = fresh i 1 n ∷ fresh i 2 n ∷ []; tries = tries }

-- A stored in both, with values that differ
abbrev pub both : List Call
both = store_to 1 A (1 ∷ []) ∷ store_to 2 A (2 ∷ 3 ∷ []) ∷ []

-- A, AB, B stored
abbrev pub three : List Call
three = store 0 B [] ∷ store 0 A (7 ∷ []) ∷ store 0 AB [] ∷ []

-- the keys below n, of one byte each
abbrev pub stores : ℕ → List Call
stores zero = []
stores (suc n) = store 0 (n ∷ []) (junk 1) ∷ stores n

abbrev pub table : List Case
table =
    -- P1
    case 3 4096 (
    gives three (list [] (junk 16)) 0x00 0
    (0x03 ∷ 0x00 ∷ 0x00 ∷ 0x00 ∷ 0x01 ∷ 0x00 ∷ 0x41 ∷ 0x00 ∷ 0x02 ∷ 0x00 ∷ 0x41 ∷ 0x42 ∷ 0x01 ∷ 0x00 ∷ 0x42 ∷ 0x00 ∷ [])
    ∷ []
    )
    -- P2
    ∷ case 3 4096 (gives three (list [] (junk 15)) 0x00 0 (0x02 ∷ 0x00 ∷ 0x00 ∷ 0x00 ∷ 0x01 ∷ 0x00 ∷ 0x41 ∷ 0x00 ∷ 0x02 ∷ 0x00 ∷ 0x41 ∷ 0x42 ∷ junk 3) ∷ [])
    -- P3
    ∷ case 3 4096 (gives three (list [] (junk 7)) 0x00 0 (0x00 ∷ 0x00 ∷ 0x00 ∷ 0x00 ∷ junk 3) ∷ [])
    -- P4
    ∷ case 3 4096 (gives three (list [] (junk 3)) 0x02 0 (junk 3) ∷ [])
    -- P5
    ∷ case 3 4096 (gives three (list AA (junk 16)) 0x00 0 (0x02 ∷ 0x00 ∷ 0x00 ∷ 0x00 ∷ 0x02 ∷ 0x00 ∷ 0x41 ∷ 0x42 ∷ 0x01 ∷ 0x00 ∷ 0x42 ∷ 0x00 ∷ junk 4) ∷ [])
    -- P6
    ∷ case 3 4096 (gives [] (list [] (junk 4)) 0x00 0 (0x00 ∷ 0x00 ∷ 0x00 ∷ 0x00 ∷ []) ∷ [])
    -- P7
    ∷ case 3 4096 (gives [] (exist 16) 0x87 0 [] ∷ gives [] (exist 17) 0x02 0 [] ∷ [])
    -- P8
    ∷ case 0 4096 (gives [] (exist 4) 0x87 0 [] ∷ gives [] (exist 5) 0x86 0 [] ∷ [])
    -- P9
    ∷ case 3 10 (gives [] (store 0 A (junk 9)) 0x00 0 (junk 9) ∷ gives [] (store 0 A (junk 10)) 0x81 0 (junk 10) ∷ [])
    -- P10
    ∷ case 3 10 (
    gives (store 0 A (junk 9) ∷ []) (store 0 A (junk 1)) 0x00 0 (junk 1)
    ∷ gives (store 0 A (junk 9) ∷ []) (store 0 A (junk 10)) 0x81 0 (junk 10)
    ∷ []
    )
    -- P11
    ∷ case 3 4096 (gives [] (store 3 A []) 0x87 0 [] ∷ gives (store 0 A [] ∷ []) (store 3 A []) 0x89 0 [] ∷ [])
    -- P12
    ∷ case 3 4096 (gives (store 0 A (1 ∷ 2 ∷ 3 ∷ 4 ∷ 5 ∷ []) ∷ []) (retrieve A (junk 3)) 0x00 5 (1 ∷ 2 ∷ 3 ∷ []) ∷ [])
    -- [1], max keys held
    ∷ case 15 4096 (
    gives (stores 16) (store 0 (0 ∷ []) (junk 2)) 0x00 0 (junk 2)
    ∷ gives (stores 16) (store 0 (16 ∷ []) []) 0x81 0 []
    ∷ []
    )
    -- [13], a byte behind the key in each of the five commands, and the last one behind none
    ∷ case 3 4096 (
    gives three (call 0x01 0 AB 1 1 (junk 1)) 0x02 0 (junk 1)
    ∷ gives three (call 0x02 0 AB 1 1 (junk 1)) 0x02 0 (junk 1)
    ∷ gives three (call 0x06 0 AB 1 16 (junk 16)) 0x02 0 (junk 16)
    ∷ gives three (call 0x10 0 AB 1 0 []) 0x02 0 []
    ∷ gives three (call 0x14 0 AB 1 0 []) 0x02 0 []
    ∷ gives three (call 0x06 0 (zeros 15 ++ A) 0 16 (junk 16)) 0x02 0 (junk 16)
    ∷ []
    )
    -- [7], the same key in both namespaces
    ∷ cases_of_two 3 4096 (
    gives both (retrieve_to 1 A (junk 3)) 0x00 1 (1 ∷ junk 2)
    ∷ gives both (retrieve_to 2 A (junk 3)) 0x00 2 (2 ∷ 3 ∷ junk 1)
    ∷ gives (store_to 1 A [] ∷ []) (exist_to 2 A) 0x87 0 []
    ∷ []
    )
    -- [7], a List shows nothing of the other
    ∷ cases_of_two 3 4096 (
    gives (store_to 1 A [] ∷ store_to 2 B [] ∷ []) (list_to 2 (junk 9)) 0x00 0 (0x01 ∷ 0x00 ∷ 0x00 ∷ 0x00 ∷ 0x01 ∷ 0x00 ∷ 0x42 ∷ 0x00 ∷ junk 1)
    ∷ gives (store_to 1 A [] ∷ []) (list_to 2 (junk 4)) 0x00 0 (0x00 ∷ 0x00 ∷ 0x00 ∷ 0x00 ∷ [])
    ∷ []
    )
    -- [7], one full to the last byte, and room in the other
    ∷ cases_of_two 3 10 (
    gives (store_to 1 A (junk 9) ∷ []) (store_to 2 A (junk 9)) 0x00 0 (junk 9)
    ∷ gives (store_to 1 A (junk 9) ∷ []) (store_to 1 B []) 0x81 0 []
    ∷ []
    )
    -- [7], an id of neither, and 0, of two and of one
    ∷ cases_of_two 3 4096 (gives both (exist_to 3 A) 0x0b 0 [] ∷ gives both (exist_to 0 A) 0x0b 0 [] ∷ [])
    ∷ case 3 4096 (gives [] (exist_to 2 A) 0x0b 0 [] ∷ gives [] (exist_to 0 A) 0x0b 0 [] ∷ [])
    -- [13], with a key that is too long for the format
    ∷ case 0 4096 (gives [] (call 0x14 0 (replicate 6 0x41) 5 0 []) 0x02 0 [] ∷ [])
    -- [14], two Stores into room for one: the later is refused, and the earlier is what is stored
    ∷ case 3 2 (
    gives (store 0 A (junk 1) ∷ []) (store 0 B (junk 1)) 0x81 0 (junk 1)
    ∷ gives (store 0 B (junk 1) ∷ []) (store 0 A (junk 1)) 0x81 0 (junk 1)
    ∷ gives (store 0 A (junk 1) ∷ store 0 B (junk 1) ∷ []) (list [] (junk 8)) 0x00 0 (0x01 ∷ 0x00 ∷ 0x00 ∷ 0x00 ∷ 0x01 ∷ 0x00 ∷ 0x41 ∷ 0x00 ∷ [])
    ∷ gives (store 0 B (junk 1) ∷ store 0 A (junk 1) ∷ []) (list [] (junk 8)) 0x00 0 (0x01 ∷ 0x00 ∷ 0x00 ∷ 0x00 ∷ 0x01 ∷ 0x00 ∷ 0x42 ∷ 0x00 ∷ [])
    ∷ []
    )
    -- [14], a Store that has room once another key is deleted, and not before
    ∷ case 3 2 (
    gives (store 0 A (junk 1) ∷ []) (store 0 B (junk 1)) 0x81 0 (junk 1)
    ∷ gives (store 0 A (junk 1) ∷ delete A ∷ []) (store 0 B (junk 1)) 0x00 0 (junk 1)
    ∷ []
    )
    ∷ []

pub cases : map got table ≡ map wanted table
unfolding read_command write_command part put number page_entry page answer status_of steps
cases = refl
