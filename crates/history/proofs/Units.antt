-- What the store of a commit leaves, plain and signed: the new header, and every byte past the first 0x200. Assumes nothing.
use mathlib.Core.Path.{◌≡◌, ◌∙◌}
use mathlib.Core.List.{List}
use Prim.Native.Nat.{ℕ, ◌-◌}
use native.Mathlib.Omega.{arith}
use lib.ListN.{length}
use Rattle.number.specs.Ranges.{part}
use Rattle.sha256.specs.Sha256.{sha256}
use Rattle.sha256.proofs.Laws.{length_sha256}
use Rattle.layout.specs.declared.Container.{Container}
use Rattle.layout.specs.Headers.{header_bytes}
use Rattle.layout.specs.Tables.{inactive}
use Rattle.layout.specs.Guarantees.{Guarantees}
use Rattle.layout.proofs.HeaderLaws.{header_length}
use Rattle.commits.specs.Committing.{header_committed}
use Rattle.history.specs.Model.{Form}
use Rattle.history.proofs.CallCases.{landed_image}
use Rattle.history.proofs.CallLaws.{Headed}
use Rattle.history.proofs.Flips.{reheaded_size}
use Rattle.history.proofs.Stored.{unit_within, stored_unit, stored_header_lem}

module _ (image : List ℕ) (c : Container) (g : Guarantees image c) where
  pub header_size : length (header_bytes image) ≡ 256
  header_size = header_length image g.shortest

  pub new_size : length (header_committed c image) ≡ 256
  unfolding header_committed
  new_size =
      reheaded_size c.header.kind (1 - c.header.flag) (sha256 (part image (inactive c.header))) (header_bytes image) header_size
      (length_sha256 (part image (inactive c.header))) ∙ header_size

  pub headed : (form : Form) → Headed c image (landed_image form c image)
  headed form =
      let k = stored_unit form image (header_committed c image) new_size in
      record {
        size = k.size;
        header = stored_header_lem image (header_committed c image) g.shortest new_size form;
        rest = λ i h. k.bytes i (λ u. let l = unit_within form i u in omega arith);
      }
