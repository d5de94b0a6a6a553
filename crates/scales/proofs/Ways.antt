-- The three ways that a call goes: a number refuses it, a status does, or it is done. Assumes nothing.
use mathlib.Core.Path.{◌≡◌, refl, sym}
use mathlib.Core.Bool.{true, false}
use mathlib.Core.List.{List}
use Prim.Native.Nat.{ℕ, ◌<◌}
use native.Mathlib.Omega.{arith}
use lib.Dec.{eqb, ltb, ltb→lt}
use lib.ListN.{length}
use borrow.Author.Tests.{eqb-true, eqb-false, ne_eqb}
use Rattle.octets.specs.Tests.{first_of}
use Rattle.octets.proofs.TestLaws.{known, holds, fails, first_each}
use Rattle.wire.proofs.CompletionLaws.{posted_status}
use Rattle.ranges.specs.Request.{numbers, statuses}
use Rattle.ranges.specs.declared.requests.Request.{Request}
use Rattle.scratch.specs.Calls.{Task, reading, writing, filling, lacks, tried, effect, slices, ended, answered}
use Rattle.scratch.proofs.CallLaws.{Fits, attempt_refused, attempt_done, fits, call_refused, call_done}
use Rattle.scales.specs.Histories.{Call, asked, ours, told, done}

pub effect_status : (t : Task) (q : Request) (b m : List ℕ) → (effect t q b m).status ≡ 0
effect_status reading q b m = refl
effect_status writing q b m = refl
effect_status (filling w) q b m = refl

module _ (c : Call) (m : List ℕ) where
  abbrev pub number : ℕ
  number = first_of (numbers c.entry c.completion m)

  abbrev pub status : ℕ
  status = first_of (statuses (asked c) c.id (length m) (lacks c.task c.buffer (asked c).len))

  pub data Way : Type 0 where
    numbered : (number ≡ 0 → ⊥) → ours c m ≡ ended number (slices c.completion c.buffer m) → Way
    refused : number ≡ 0 → (status ≡ 0 → ⊥) → ours c m ≡ ended 0 (answered c.post (asked c).cid (tried status c.buffer m)) → Way
    passed : number ≡ 0 → status ≡ 0 → Fits c.task (asked c) c.buffer m
        → ours c m ≡ ended 0 (answered c.post (asked c).cid (effect c.task (asked c) c.buffer m)) → Way

  pub way : Way
  way =
      let s = slices c.completion c.buffer m in
      elim (known (eqb number 0)) [
        | fails e ↦ numbered (eqb-false number 0 e) (sym (call_refused c.entry s refl c.task c.post c.id (eqb-false number 0 e)))
        | holds e ↦
            let k = eqb-true number 0 e in
            elim (known (eqb status 0)) [
              | fails f ↦
                  refused k (eqb-false status 0 f)
                  (sym (call_done c.entry s refl c.task c.post c.id k refl
                  (attempt_refused c.task c.id (asked c) c.buffer m refl (eqb-false status 0 f)) refl))
              | holds f ↦
                  let g = eqb-true status 0 f in
                  passed k g (fits c.task c.id (asked c) c.buffer m refl g)
                  (sym (call_done c.entry s refl c.task c.post c.id k refl (attempt_done c.task c.id (asked c) c.buffer m refl g) refl))
            ]
      ]

  status_byte : status < 256
  status_byte =
      ltb→lt _ 256 (first_each (λ k. ltb k 256) (statuses (asked c) c.id (length m) (lacks c.task c.buffer (asked c).len)) tt tt)

  -- what its caller sees of it
  pub done_numbered : (number ≡ 0 → ⊥) → ours c m ≡ ended number (slices c.completion c.buffer m) → done (told c (ours c m)) ≡ false
  done_numbered h e = rw (e, ne_eqb number 0 h)

  pub done_refused : (status ≡ 0 → ⊥) → ours c m ≡ ended 0 (answered c.post (asked c).cid (tried status c.buffer m)) → done (told c (ours c m)) ≡ false
  done_refused h e = rw (e, posted_status c.post (asked c).cid status 0 status_byte, ne_eqb status 0 h)

  pub done_passed : ours c m ≡ ended 0 (answered c.post (asked c).cid (effect c.task (asked c) c.buffer m)) → done (told c (ours c m)) ≡ true
  done_passed e =
      rw (e, effect_status c.task (asked c) c.buffer m, posted_status c.post (asked c).cid 0 0 (omega arith))
