-- What the reader of completions gives. Assumes nothing.
use Rattle.std.specs.Prelude.{cond, List, [], ◌∷◌, ℕ, eqb}
use Rattle.octets.specs.Tests.{first_of}
use Rattle.wire.specs.declared.completions.Completion.{Completion}
use Rattle.wire.specs.Completion.{read_completion, not_completion}
use Rattle.host.specs.declared.replies.Reply.{Reply}

-- a number, and all the named fields
abbrev pub numbered : ℕ → Completion → Reply
numbered n c =
    record {
      number = n;
      dword0 = c.dword0;
      head = c.head;
      queue = c.queue;
      cid = c.cid;
      phase = c.phase;
      status = c.status;
      kind = c.kind;
    }

abbrev pub blank : Completion
blank = record { dword0 = 0; head = 0; queue = 0; cid = 0; phase = 0; status = 0; kind = 0 }

-- zeros beside a number
abbrev pub unread : ℕ → Reply
unread n = numbered n blank

-- number 2
unfoldable pub reply : List ℕ → Reply
reply s =
    let first = first_of (not_completion s ∷ []) in
    numbered first (cond (eqb first 0) (read_completion s) blank)
