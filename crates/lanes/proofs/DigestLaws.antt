-- The digests of messages that stand one after another: the lanes' hash values make them. Assumes nothing.
use mathlib.Core.Path.{◌≡◌, refl, ap, ap₂, ◌∙◌}
use mathlib.Core.List.{List, ◌++◌}
use Prim.Native.Nat.{ℕ, zero, suc, ◌+◌, ◌-◌, ◌*◌, ◌/◌, ◌%◌, ◌^◌, ◌≤◌, ◌<◌}
use native.Mathlib.Numerals.{add-one}
use native.Mathlib.Omega.{arith}
use lib.ListN.{length, take, length-append, length-take, length-drop}
use borrow.Rule.Slice.PartMut.{put_mid}
use Rattle.std.proofs.lemmas.Slice.{take-put_mid}
use Rattle.sha256.specs.Sha256.{H₀, padding, padded, compress, hashed, digest_bytes, digest_from, sha256}
use Rattle.lanes.specs.Digests.{message, digests}
use Rattle.lanes.specs.Flat.{lane_block, hash_of, digests_of}
use Rattle.lanes.proofs.BlockLaws.{message_length, length_padding}

-- ---- the digests' bytes, as the code writes them

pub digests_more : (a e out ys : List ℕ) (l : ℕ) → length out ≡ 256 → l < 8 → take (l * 32) out ≡ digests_of a e l → ys ≡ digest_bytes (hash_of a e l)
    → (length (put_mid (l * 32) (l * 32 + 32 - l * 32) out ys) ≡ 256) × (take ((l + 1) * 32) (put_mid (l * 32) (l * 32 + 32 - l * 32) out ys) ≡ digests_of a e (l + 1))
unfolding digests_of digest_bytes
digests_more a e out ys l lo h eo ey =
    let n : length ys ≡ 32 = ap length ey in (
      simp (length-append, length-take, length-drop) (omega arith),
      take-put_mid (l * 32) (l * 32 + 32 - l * 32) out ys ((l + 1) * 32) (omega arith) (omega arith)
          ∙ rw add-one (ap₂ (λ (x y : List ℕ). x ++ y) eo ey),
    )

-- ---- the hash value and the digest of a lane

-- the lanes' hash values are those after the first b blocks of their padded messages
abbrev pub Hashed : (messages : List ℕ) → (n : ℕ) → (a e : List ℕ) → (b : ℕ) → Type 0
Hashed messages n a e b = (l : ℕ) → l < 8 → hash_of a e l ≡ hashed H₀ (padded (message messages n l)) b

-- one block more of a lane
pub hash_more : (messages H H₁ : List ℕ) (n b l : ℕ) → H ≡ hashed H₀ (padded (message messages n l)) b → H₁ ≡ compress H (lane_block messages n b l)
    → H₁ ≡ hashed H₀ (padded (message messages n l)) (b + 1)
unfolding hashed
hash_more messages H H₁ n b l e e₁ = rw add-one (e₁ ∙ ap (λ (x : List ℕ). compress x (lane_block messages n b l)) e)

pub lane_digest : (messages H : List ℕ) (n l : ℕ) → length messages ≡ 8 * n → n % 64 ≡ 0 → n < 2 ^ 29 → l < 8
    → H ≡ hashed H₀ (padded (message messages n l)) (n / 64 + 1) → digest_bytes H ≡ sha256 (message messages n l)
unfolding sha256 digest_from padded
lane_digest messages H n l e h small hl eh =
    let m = message messages n l in
    let size : length m ≡ n = message_length messages n l e hl in
    let pad : length (padding (length m)) ≡ 64 = ap (λ (x : ℕ). length (padding x)) size ∙ length_padding n h small in
    let all : length (m ++ padding (length m)) ≡ length m + length (padding (length m)) = length-append m (padding (length m)) in
    let blocks : n / 64 + 1 ≡ length (m ++ padding (length m)) / 64 = omega arith in
    ap digest_bytes (eh ∙ ap (λ (x : ℕ). hashed H₀ (m ++ padding (length m)) x) blocks)

pub digests_are : (messages a e : List ℕ) (n count : ℕ) → length messages ≡ 8 * n → n % 64 ≡ 0 → n < 2 ^ 29 → count ≤ 8
    → Hashed messages n a e (n / 64 + 1) → digests_of a e count ≡ digests messages n count
unfolding digests_of digests
digests_are messages a e n zero el h small hc hashes = refl
digests_are messages a e n (suc l) el h small hc hashes =
    ap₂ (λ (x y : List ℕ). x ++ y) (digests_are messages a e n l el h small (omega arith) hashes)
    (lane_digest messages (hash_of a e l) n l el h small (omega arith) (hashes l (omega arith)))
