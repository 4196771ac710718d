-- Whether a session may go on: its header is the image's, and the table is staged. Assumes nothing.
use mathlib.Core.Path.{◌≡◌, ap, ◌∙◌}
use mathlib.Core.Bool.{true}
use mathlib.Core.List.{List}
use Prim.Native.Nat.{ℕ}
use Rattle.layout.specs.declared.Container.{Container}
use Rattle.layout.specs.Headers.{header_bytes}
use Rattle.steps.specs.declared.Session.{Session}
use Rattle.steps.specs.Sessions.{begun_with, current, table_staged}
use Rattle.number.specs.Bytes.{same_bytes}
use Rattle.number.proofs.Tests.{and_left, and_right, and_both}
use Rattle.number.proofs.ListLaws.{same_refl}

-- the session goes on where the header is the same and the table is staged
pub goes_on_lem : (c : Container) (image image' : List ℕ) (session : Session) → header_bytes image' ≡ header_bytes image
    → (table_staged c image ≡ true → table_staged c image' ≡ true) → current c image session ≡ true → current c image' session ≡ true
unfolding current
goes_on_lem c image image' session h t k =
    and_both (same_bytes (header_bytes image') session.header) (table_staged c image')
    (ap (λ (x : List ℕ). same_bytes x session.header) h ∙ and_left (same_bytes (header_bytes image) session.header) (table_staged c image) k)
    (t (and_right (same_bytes (header_bytes image) session.header) (table_staged c image) k))

pub staged_table_lem : (c : Container) (image : List ℕ) (session : Session) → current c image session ≡ true → table_staged c image ≡ true
unfolding current
staged_table_lem c image session k = and_right (same_bytes (header_bytes image) session.header) (table_staged c image) k

pub fresh : (c : Container) (image image' : List ℕ) → header_bytes image' ≡ header_bytes image → table_staged c image' ≡ true
    → current c image' (begun_with (header_bytes image)) ≡ true
unfolding current
fresh c image image' h t =
    and_both (same_bytes (header_bytes image') (header_bytes image)) (table_staged c image')
    (ap (λ (x : List ℕ). same_bytes x (header_bytes image)) h ∙ same_refl (header_bytes image)) t
