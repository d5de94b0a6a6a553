-- An Identify page that was written is read with its numbers. Assumes nothing.
use mathlib.Core.Path.{◌≡◌}
use mathlib.Core.List.{List}
use Prim.Native.Nat.{ℕ, ◌^◌, ◌≤◌, ◌<◌}
use lib.ListN.{length}
use Rattle.sheets.specs.declared.identify.Limits.{Limits}
use Rattle.sheets.specs.Identify.{identify_page, no_limits, limits_at}
use Rattle.sheets.proofs.IdentifyLaws.{Sized, length_page, size_back, used_back, formats_back, index_back, limits_at_law, no_limits_law}
use Rattle.host.specs.Identity.{identifying, identity}

-- the namespace's numbers within their bits, and no more formats than there is room for
pub record Written (size used index n : ℕ) : Type 0 where
  pub size_in : size < 256 ^ 8
  pub used_in : used < 256 ^ 8
  pub index_in : index < 16
  pub some : 1 ≤ n
  pub room : n ≤ 251

module _ (size used index : ℕ) (f : ℕ → Limits) (n : ℕ) (w : Written size used index n) (o : ℕ) where
  abbrev p : List ℕ
  p = identify_page size used index f n

  given : (l : Limits) → limits_at p o ≡ l → identity p o ≡ identifying n index size used l
  unfolding identity
  given l e =
      let k : length p ≡ 4096 = length_page size used index f n w.room in
      rw (k, e, size_back size used index f n w.size_in, used_back size used index f n w.used_in)
      (rw (formats_back size used index f n w.some, index_back size used index f n w.index_in))

  pub identity_back : o < n → Sized (f o) → identity p o ≡ identifying n index size used (f o)
  identity_back h s = given (f o) (limits_at_law size used index f n o h w.room s)

  pub identity_past : n ≤ o → identity p o ≡ identifying n index size used no_limits
  identity_past h = given no_limits (no_limits_law size used index f n o h w.some)
