-- Whether an image may be reverted, as the code judges it. Assumes nothing.
use Rattle.std.specs.Result.{is_ok}
use Rattle.std.specs.Prelude.{Result}
use Rattle.layout.specs.declared.Container.{Container}
use Rattle.layout.specs.declared.Refusal.{Refusal}
use mathlib.Core.Path.{◌≡◌, sym, ap, ◌∙◌}
use mathlib.Core.Bool.{Bool, true, false, ◌&&◌}
use mathlib.Core.List.{List}
use Prim.Native.Nat.{ℕ, ◌≤◌}
use lib.ListN.{length}
use lib.Seq.{sets}
use Rattle.number.specs.Bytes.{same_bytes}
use Rattle.layout.specs.Headers.{header_bytes}
use Rattle.layout.specs.Opening.{opened, opened_under}
use Rattle.layout.proofs.UnderLaws.{opened_under_lem}
use Rattle.commits.specs.Committing.{stored_header}
use Rattle.steps.specs.Sessions.{revertible}
use Rattle.number.proofs.Tests.{left_fails}

left_yes : (a b : Bool) → a ≡ true → (a && b) ≡ b
left_yes a b e = rw e

module _ (image former later : List ℕ) where
  pub header_changed : same_bytes (header_bytes image) later ≡ false → false ≡ revertible image former later
  unfolding revertible
  header_changed e = sym (left_fails (same_bytes (header_bytes image) later) (is_ok (opened (stored_header image former))) e)

  pub header_same : same_bytes (header_bytes image) later ≡ true → 0x200 ≤ length image → length former ≡ 0x100 → (answer : Result Container Refusal) → answer ≡ opened_under former image
      → (valid : Bool) → valid ≡ is_ok answer → valid ≡ revertible image former later
  unfolding revertible stored_header
  header_same e long full answer a valid v =
      v ∙ ap is_ok (a ∙ sym (opened_under_lem image former long full))
      ∙ sym (left_yes (same_bytes (header_bytes image) later) (is_ok (opened (sets image 0x100 former))) e)
