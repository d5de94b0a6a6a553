-- Bits of an entry that are not looked at change nothing, on any memory. Assumes nothing.
use mathlib.Core.Path.{◌≡◌, refl, sym, ap, ◌∙◌}
use mathlib.Core.Bool.{Bool, true, false, ◌||◌}
use mathlib.Core.List.{List, [], ◌∷◌, ◌++◌}
use lib.ListN.{replicate}
use Prim.Native.Nat.{ℕ, ◌%◌, ◌/◌}
use Rattle.octets.specs.Octets.{part, number, zeros}
use Rattle.octets.proofs.TestLaws.{neither, contrary}
use Rattle.wire.specs.declared.entries.Command.{Command}
use Rattle.wire.specs.Entry.{read_command, write_command, is_store, is_retrieve, is_list}
use Rattle.store.specs.Namespace.{Namespace}
use Rattle.memory.specs.Namespaces.{at, with}
use Rattle.memory.specs.Memory.{namespaces_of, legal}
use Rattle.rules.specs.Steps.{steps, status_of}
use Rattle.commands.specs.Answer.{answer}
use Rattle.wire.specs.Completion.{Post}
use Rattle.commands.specs.Command.{Lent, respond, serve, command}
use Rattle.promises.proofs.Examples.{request, A}
use Rattle.promises.proofs.Bits.{low_bit, high_bit}
use Rattle.lending.specs.Unread.{reads_amount, Agree}

-- two commands that say the same in all that is looked at
record Same (c d : Command) : Type 0 where
  opcode : c.opcode ≡ d.opcode
  fused : c.fused ≡ d.fused
  cid : c.cid ≡ d.cid
  nsid : c.nsid ≡ d.nsid
  len : c.len ≡ d.len
  key : c.key ≡ d.key
  options : is_store c.opcode ≡ true → c.options % 4 ≡ d.options % 4
  amount : reads_amount c.opcode ≡ true → c.amount ≡ d.amount

module _ (c d : Command) (a : Same c d) where
  same_answer : (ok : Bool) (s : Namespace) (b : List ℕ) → answer ok s c b ≡ answer ok s d b
  unfolding answer status_of steps
  same_answer ok s b = go (is_store d.opcode) refl (reads_amount d.opcode) refl
    where
      go : (x : Bool) → is_store d.opcode ≡ x → (y : Bool) → reads_amount d.opcode ≡ y → answer ok s c b ≡ answer ok s d b
      go true f y g =
          let o : is_store c.opcode ≡ true = rw a.opcode f in
          let two = a.options o in
          let low : c.options % 2 ≡ d.options % 2 = low_bit c.options ∙ ap (λ n. n % 2) two ∙ sym (low_bit d.options) in
          let high : c.options / 2 % 2 ≡ d.options / 2 % 2 = high_bit c.options ∙ ap (λ n. n / 2 % 2) two ∙ sym (high_bit d.options) in
          rw (a.key, a.opcode, a.fused, a.nsid, a.len, a.amount (rw o), low, high)
      go false f true g = rw (a.key, a.opcode, a.fused, a.nsid, a.len, a.amount (rw a.opcode g), f)
      go false f false g =
          let n = neither (is_store d.opcode || is_retrieve d.opcode) (is_list d.opcode) g in
          rw (a.key, a.opcode, a.fused, a.nsid, a.len, f, (neither (is_store d.opcode) (is_retrieve d.opcode) n.0).1, n.1)

  same_served : (p : Post) (l : Lent) → serve p c l ≡ serve p d l
  unfolding serve respond
  same_served p l =
      let ss = namespaces_of l.memory in
      rw (
        ap (λ (n : ℕ). at n ss) a.nsid,
        same_answer (legal l.memory) (at d.nsid ss) l.buffer,
        ap (λ (n : ℕ). with n (answer (legal l.memory) (at d.nsid ss) d l.buffer).pairs ss) a.nsid,
        a.cid,
      )

read_agree : (e f : List ℕ) → Agree e f → Same (read_command e) (read_command f)
unfolding read_command
read_agree e f a =
    record {
      opcode = a.opcode;
      fused = a.fused;
      cid = ap number a.cid;
      nsid = ap number a.nsid;
      len = a.len;
      key = a.key;
      options = a.options;
      amount = λ o. ap number (a.amount o);
    }

-- ---- the promise

pub unread : (e f : List ℕ) → Agree e f → (p : Post) (l : Lent) → command p e l ≡ command p f l
unfolding command
unread e f a p l = rw (a.long, same_served (read_command e) (read_command f) (read_agree e f a) p l)

-- ---- an instance: an Exist of A with other bits in byte 1, other reserved bytes, Dword 10 and options

abbrev plain : List ℕ
plain = (request 0x14 A 0 []).entry

abbrev noisy : List ℕ
noisy = 0x14 ∷ 0xfc ∷ 0 ∷ 0 ∷ 1 ∷ 0 ∷ 0 ∷ 0 ∷ 0x41 ∷ zeros 7 ++ replicate 28 9 ++ 1 ∷ replicate 11 9 ++ zeros 8

quiet : Agree plain noisy
unfolding write_command part
quiet =
    record {
      long = refl;
      opcode = refl;
      fused = refl;
      cid = refl;
      nsid = refl;
      len = refl;
      key = refl;
      options = λ e. absurd (contrary e);
      amount = λ e. absurd (contrary e);
    }

same_outcome : (p : Post) (l : Lent) → command p plain l ≡ command p noisy l
same_outcome = unread plain noisy quiet
