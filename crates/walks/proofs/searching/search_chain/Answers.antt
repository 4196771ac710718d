use Prim.Native.Nat.{ℕ, suc, ◌-◌}
use mathlib.Core.Bool.{true, false}
use mathlib.Core.Path.{◌≡◌, refl, sym, ap, ◌∙◌}
use native.Mathlib.Omega.{arith}
use Rattle.std.proofs.lemmas.Result.{err_from_is_err_and}
use Rattle.views.specs.Versions.{version_of}
use Rattle.names.specs.Entries.{admit}
use Rattle.names.specs.Searching.{goes}
use Rattle.names.proofs.EntryLaws.{admit_at, place_ends}
use Rattle.names.proofs.HashLaws.{link_zero, link_is, link_named}
use Rattle.names.proofs.ChainLaws.{counted_start, counted_last, counted_next, counted_none}
use Rattle.walks.proofs.searching.search_chain.Goals as goal

pub loop-step-init : goal.loop-step-init
loop-step-init c = (refl, c.requires.0, counted_start c.args.s (version_of c.args.reader.view c.args.reader.image.now).bytes (version_of c.args.reader.view c.args.reader.image.now).verified c.args.parent c.args.name.now c.args.first _ (omega arith))

pub returns-then-f-eq0 : goal.returns-then-f-eq0
returns-then-f-eq0 c =
    let left : suc c.args.s.files.max - c.loop-step._step ≡ 0 → ⊥ = λ e. omega (arith, c.loop-step-test.true) in
    sym (c.loop-step.invariant.2 ∙ counted_last c.args.s (version_of c.args.reader.view c.args.reader.image.now).bytes (version_of c.args.reader.view c.args.reader.image.now).verified c.args.parent c.args.name.now _ _ _ left (sym (link_zero c.args.s (version_of c.args.reader.view c.args.reader.image.now).bytes (version_of c.args.reader.view c.args.reader.image.now).verified c.args.parent c.args.name.now c.loop-step.f c.if-f-eq0.true)))

pub returns-in_err-at : goal.returns-in_err-at
returns-in_err-at c =
    let p = err_from_is_err_and c.from_residual.result c.from_residual.ensures.1 in
    let left : suc c.args.s.files.max - c.loop-step._step ≡ 0 → ⊥ = λ e. omega (arith, c.loop-step-test.true) in
    rw (p.1, p.2)
    (sym (c.loop-step.invariant.2 ∙ counted_last c.args.s (version_of c.args.reader.view c.args.reader.image.now).bytes (version_of c.args.reader.view c.args.reader.image.now).verified c.args.parent c.args.name.now _ _ _ left (sym (link_is c.args.s (version_of c.args.reader.view c.args.reader.image.now).bytes (version_of c.args.reader.view c.args.reader.image.now).verified c.args.parent c.args.name.now c.loop-step.f c.if-f-eq0.false _ (ap (λ (l : ℕ). admit (version_of c.args.reader.view c.args.reader.image.now).verified l c.args.s.files false c.loop-step.f) c.requires.1.logs ∙ sym c.reach.ensures.0 ∙ c.in_err-at.was)))))

pub is_named-requires : goal.is_named-requires
is_named-requires c =
    let q = admit_at (version_of c.args.reader.view c.args.reader.image.now).verified c.args.reader.view.level4.log c.args.s.files false c.loop-step.f _ (sym c.reach.ensures.0 ∙ c.in_ok-at.was) in
    (q.2, omega (arith, q.2, c.requires.1.files, c.requires.1.file, place_ends c.args.s.files c.loop-step.f q.1))

pub returns-then-is_named : goal.returns-then-is_named
returns-then-is_named c =
    let left : suc c.args.s.files.max - c.loop-step._step ≡ 0 → ⊥ = λ e. omega (arith, c.loop-step-test.true) in
    sym (c.loop-step.invariant.2 ∙ counted_last c.args.s (version_of c.args.reader.view c.args.reader.image.now).bytes (version_of c.args.reader.view c.args.reader.image.now).verified c.args.parent c.args.name.now _ _ _ left (sym (link_named c.args.s (version_of c.args.reader.view c.args.reader.image.now).bytes (version_of c.args.reader.view c.args.reader.image.now).verified c.args.parent c.args.name.now c.loop-step.f true (sym c.is_named.ensures ∙ c.if-is_named.true)
    ∙ link_is c.args.s (version_of c.args.reader.view c.args.reader.image.now).bytes (version_of c.args.reader.view c.args.reader.image.now).verified c.args.parent c.args.name.now c.loop-step.f c.if-f-eq0.false _ (ap (λ (l : ℕ). admit (version_of c.args.reader.view c.args.reader.image.now).verified l c.args.s.files false c.loop-step.f) c.requires.1.logs ∙ sym c.reach.ensures.0 ∙ c.in_ok-at.was))))

pub field_of-f-requires : goal.field_of-f-requires
field_of-f-requires c =
    let q = admit_at (version_of c.args.reader.view c.args.reader.image.now).verified c.args.reader.view.level4.log c.args.s.files false c.loop-step.f _ (sym c.reach.ensures.0 ∙ c.in_ok-at.was) in
    omega (arith, c.requires.1.files, c.requires.1.file, place_ends c.args.s.files c.loop-step.f q.1)

pub loop-step-preserved : goal.loop-step-preserved
loop-step-preserved c =
    let left : suc c.args.s.files.max - c.loop-step._step ≡ 0 → ⊥ = λ e. omega (arith, c.loop-step-test.true) in (
      c.reach.auto.known ∙ c.loop-step.invariant.0,
      c.reach.ensures.1,
      c.loop-step.invariant.2 ∙ counted_next c.args.s (version_of c.args.reader.view c.args.reader.image.now).bytes (version_of c.args.reader.view c.args.reader.image.now).verified c.args.parent c.args.name.now _ _ _ left (sym (ap (λ (x : ℕ). goes x) c.field_of-f.ensures ∙ link_named c.args.s (version_of c.args.reader.view c.args.reader.image.now).bytes (version_of c.args.reader.view c.args.reader.image.now).verified c.args.parent c.args.name.now c.loop-step.f false (sym c.is_named.ensures ∙ c.if-is_named.false)
          ∙ link_is c.args.s (version_of c.args.reader.view c.args.reader.image.now).bytes (version_of c.args.reader.view c.args.reader.image.now).verified c.args.parent c.args.name.now c.loop-step.f c.if-f-eq0.false _ (ap (λ (l : ℕ). admit (version_of c.args.reader.view c.args.reader.image.now).verified l c.args.s.files false c.loop-step.f) c.requires.1.logs ∙ sym c.reach.ensures.0 ∙ c.in_ok-at.was))) _ (omega arith),
    )

pub returns : goal.returns
returns c = sym (c.loop-step.invariant.2 ∙ counted_none c.args.s (version_of c.args.reader.view c.args.reader.image.now).bytes (version_of c.args.reader.view c.args.reader.image.now).verified c.args.parent c.args.name.now _ _ (omega (arith, c.loop-step-test.false)))
