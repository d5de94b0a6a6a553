-- What the builder writes where nothing is refused; and an entry that was built is read as the command that was asked for.
-- Assumes nothing.
use mathlib.Core.Path.{◌≡◌, refl}
use mathlib.Core.Bool.{Bool, true, false, cond, ◌||◌}
use mathlib.Core.List.{List}
use Prim.Native.Nat.{ℕ, ◌^◌, ◌≤◌, ◌<◌}
use native.Mathlib.Omega.{arith}
use lib.ListN.{length}
use lib.Seq.{take-append_seam}
use borrow.Author.Tests.{eq-eqb, le-ltb, ltb-false}
use Rattle.keys.specs.Keys.{Key}
use Rattle.octets.proofs.TestLaws.{none_holds}
use Rattle.octets.proofs.ZeroLaws.{length_filled, zeros_behind}
use Rattle.wire.specs.Entry.{read_command, write_command, known, is_delete, is_exist, key_of, stale}
use Rattle.wire.proofs.EntryLaws.{command_back, stale_back}
use Rattle.host.specs.Build.{command, build_steps, built, build}

zero_below : (x : Bool) (n b : ℕ) → n < b → cond x 0 n < b
zero_below true n b h = omega arith
zero_below false n b h = h

module _ (o cid nsid : ℕ) (k : Key) (dword10 options : ℕ) (e : List ℕ) where
  pub build_0 : length e ≡ 64 → length k ≤ 16 → known o ≡ true
      → built 0 (write_command (command o cid nsid k dword10 options)) ≡ build e o cid nsid k dword10 options
  unfolding build
  build_0 h l n = rw (eq-eqb (length e) 64 h, le-ltb 16 (length k) l, n)

  -- the key asked for, without the zeros behind it
  pub build_key : key_of (command o cid nsid k dword10 options) ≡ k
  unfolding command
  build_key = take-append_seam k _

  -- behind the key stands nothing but zeros
  pub build_clear : (build e o cid nsid k dword10 options).number ≡ 0 → stale (read_command (build e o cid nsid k dword10 options).entry) ≡ false
  unfolding build command
  build_clear h =
      let r = none_holds (build_steps e o k) tt h in
      let l = length_filled 16 k (ltb-false 16 (length k) r.1.0) in
      rw (h, stale_back (command o cid nsid k dword10 options) l, zeros_behind 16 k refl)

  pub build_read : (build e o cid nsid k dword10 options).number ≡ 0 → cid < 256 ^ 2 → nsid < 256 ^ 4 → dword10 < 256 ^ 4
      → read_command (build e o cid nsid k dword10 options).entry ≡ command o cid nsid k dword10 options
  unfolding build command
  build_read h hc hn hd =
      let r = none_holds (build_steps e o k) tt h in
      let a = zero_below (is_delete o || is_exist o) dword10 (256 ^ 4) hd in
      let l = length_filled 16 k (ltb-false 16 (length k) r.1.0) in
      rw h (command_back _ (record { fused_in = omega arith; cid_in = hc; nsid_in = hn; amount_in = a; key_in = l }))
