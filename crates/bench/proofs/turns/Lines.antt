-- What is printed, in one line or in two. Assumes nothing.
use mathlib.Core.Path.{◌≡◌, sym, ◌∙◌}
use mathlib.Core.Bool.{true, false}
use mathlib.Core.List.{List, ◌++◌, append-nil}
use Prim.Native.Nat.{ℕ, ◌+◌, ◌*◌, ◌≤◌}
use native.Mathlib.Omega.{arith}
use lib.ListN.{length, take, length-append}
use lib.Seq.{length-take-le}
use Rattle.octets.specs.Octets.{put}
use Rattle.octets.proofs.PartLaws.{put_next, length_put}
use Rattle.io.specs.Counts.{IsPrefixLen}
use Rattle.wire.specs.declared.entries.Command.{Command}
use Rattle.wire.specs.declared.completions.Completion.{Completion}
use Rattle.wire.specs.Completion.{read_completion}
use Rattle.bench.specs.Text.{line}
use Rattle.bench.specs.Turn.{gives, given_of, printed}
use Rattle.bench.proofs.texts.Line.{length_line}

counts : (n : ℕ) (xs : List ℕ) → n ≤ length xs → IsPrefixLen n xs
counts n xs h = (h, sym (length-take-le n xs h))

module _ (c : Command) (k b : List ℕ) {r : Completion} (e : r ≡ read_completion k) (m : length k ≡ 16) where
  whole : length (line k) ≡ 33
  whole = length_line k ∙ rw m

  module _ (g : gives c.opcode r.status ≡ false) where
    one_line : printed c k b ≡ line k
    unfolding printed
    one_line = rw (← e, g, append-nil)

    pub one_length : 33 ≡ length (printed c k b)
    one_length = rw one_line (sym whole)

    pub one_text : (t : List ℕ) {u : List ℕ} → u ≡ put 0 (line k) t → u ≡ put 0 (printed c k b) t
    one_text t f = rw one_line f

    pub one_prefix : (t : List ℕ) {u : List ℕ} → u ≡ put 0 (line k) t → 34 + 2 * length b ≤ length t → IsPrefixLen 33 u
    one_prefix t {u} f o =
        let l : length u ≡ length t = rw f (length_put 0 (line k) t (omega (arith, whole))) in
        counts 33 u (omega arith)

  module _ {n : ℕ} (g : gives c.opcode r.status ≡ true) (i : n ≡ given_of c r.dword0 b) (h : n ≤ length b) where
    two_lines : printed c k b ≡ line k ++ line (take n b)
    unfolding printed
    two_lines = rw (← e, g, ← i)

    second : length (line (take n b)) ≡ 2 * n + 1
    second = length_line (take n b) ∙ rw (length-take-le n b h)

    pub two_length : 34 + 2 * n ≡ length (printed c k b)
    two_length = rw (two_lines, length-append) (omega (arith, whole, second))

    pub two_text : (t : List ℕ) {u w : List ℕ} → u ≡ put 0 (line k) t → w ≡ put 33 (line (take n b)) u → 34 + 2 * length b ≤ length t
        → w ≡ put 0 (printed c k b) t
    two_text t f q o = rw (two_lines, q, f) (rw whole at (put_next 0 (line k) (line (take n b)) t (omega (arith, whole, second))))

pub ruleset print_laws = (one_length, one_text, one_prefix, two_length, two_text)
