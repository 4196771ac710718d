-- A reader says that the rules hold, once: so they do, part by part. Assumes nothing.
use Prim.Native.Nat.{ℕ}
use mathlib.Core.Logic.{∥∥₁_elim, ∥∥₁_map}
use mathlib.Core.HLevel.{×_prop}
use native.Mathlib.Bridge.{le_prop}
use Rattle.dpfs.proofs.SelectionLaws.{well_placed}
use Rattle.ivfc.specs.declared.View.{View}
use lib.ListN.{length}
use Rattle.ivfc.specs.declared.Reader.{Reader}
use Rattle.ivfc.specs.Rules.{ViewRules}

pub settled : (view : View) (n : ℕ) → ∥ ViewRules view n ∥₁ → ViewRules view n
settled view n h = record {
  tree = well_placed _ _ (∥∥₁_map h (λ r. r.tree));
  hash = record { logs = λ i k. out (×_prop le_prop le_prop) (λ r. r.hash.logs i k); enough = λ i k. out le_prop (λ r. r.hash.enough i k) };
  inner1 = out le_prop (λ r. r.inner1);
  inner2 = out le_prop (λ r. r.inner2);
  inner3 = out le_prop (λ r. r.inner3);
  inner4 = λ e. out le_prop (λ r. r.inner4 e);
  outer4 = λ e. out le_prop (λ r. r.outer4 e);
  master = out le_prop (λ r. r.master);
}
  where
    out : {A : Type 0} → IsProp A → (ViewRules view n → A) → A
    out p f = ∥∥₁_elim h p f

pub rules_of : (reader : Reader) → ViewRules reader.view (length reader.image.now)
rules_of reader = settled _ _ reader.rules
