-- A completion that was written is read with its fields. Assumes nothing.
use mathlib.Core.Path.{◌≡◌}
use Rattle.wire.specs.declared.completions.Completion.{Completion}
use Rattle.wire.specs.Completion.{write_completion}
use Rattle.wire.proofs.CompletionLaws.{Whole, length_completion, completion_back}
use Rattle.host.specs.Reply.{numbered, reply}

pub reply_back : (c : Completion) → Whole c → reply (write_completion c) ≡ numbered 0 c
unfolding reply
reply_back c w = rw (length_completion c, completion_back c w)
