-- What a write answers, as the code finds it. Assumes nothing.
use Rattle.std.specs.Prelude.{Result, Ok, Err}
use Rattle.layout.specs.declared.Refusal.{Refusal}
use mathlib.Core.Path.{◌≡◌, refl, sym, ap, ◌∙◌}
use mathlib.Core.List.{List}
use mathlib.Core.Bool.{Bool, true, false, ◌&&◌, ◌||◌, cond, true≢false}
use Prim.Native.Nat.{ℕ, suc, ◌+◌, ◌-◌, ◌≤◌, ◌<◌}
use native.Mathlib.Omega.{arith}
use borrow.Author.Tests.{leb-true}
use Rattle.number.specs.Ranges.{inside}
use Rattle.number.specs.Blocks.{blocks, block_of, last_block}
use Rattle.layout.specs.declared.Refusal.TheVariants.{OutOfRange, Unverified}
use Rattle.ivfc.specs.declared.View.{View}
use Rattle.ivfc.specs.Verified.{first_not}
use Rattle.ivfc.specs.Views.{level_of, verified}
use Rattle.ivfc.specs.Rules.{ViewRules}
use Rattle.update.specs.Covering.{covered}
use Rattle.update.proofs.JudgeLaws.{partly_lowest}
use Rattle.steps.specs.Sessions.{ends_outcome, write_outcome}
use Rattle.steps.specs.Rules.{EndRules}
use Rattle.steps.proofs.ReadLaws.{first_last, lowest_refused, none_refused, nothing_touched, outside_refused, inside_passes, last_exists, positive, last_is}

-- ---- the view's numbers

module _ (view : View) (n : ℕ) (rules : ViewRules view n) where
  pub log4_most : view.level4.log ≤ 16
  unfolding level_of
  log4_most = (rules.hash.logs 4 (omega arith)).1

-- ---- refusal 10

module _ (view : View) (image : List ℕ) (place n first last : ℕ) (w : EndRules view place n first last) where
  abbrev passes : ℕ → Bool
  passes b = covered view.level4 place n b || verified view image 4 b

  lowest : (p q : Bool) → passes first ≡ p → passes last ≡ q
      → cond p (cond q (suc last) last) first ≡ first_not passes (block_of view.level4 place) (suc (last_block view.level4 place n) - block_of view.level4 place)
  lowest p q e f =
      sym (partly_lowest view.level4 place n w.some (verified view image 4)
      ∙ rw (← w.start, ← w.stop, e, f))

  ordered : first ≤ last
  ordered = rw (w.start, w.stop) (first_last view.level4 place n w.some)

  -- the first or the last block is refused, or none
  pub refuse_first : passes first ≡ false → Err (Unverified first) ≡ ends_outcome view image place n
  unfolding ends_outcome
  refuse_first e =
      sym (lowest_refused passes view place n first w.some (lowest false (passes last) e refl) (rw (← w.stop) ordered))

  pub refuse_last : passes first ≡ true → passes last ≡ false → Err (Unverified last) ≡ ends_outcome view image place n
  unfolding ends_outcome
  refuse_last e f =
      sym (lowest_refused passes view place n last w.some (lowest true false e f) (rw (← w.stop) (omega arith)))

  pub refuse_none : passes first ≡ true → passes last ≡ true → (Ok tt) ≡ ends_outcome view image place n
  unfolding ends_outcome
  refuse_none e f =
      sym (none_refused passes view place n (suc last) w.some (lowest true true e f) (rw (← w.stop) (omega arith)))

  pub ends_exist : (first < blocks view.level4) × (last < blocks view.level4)
  ends_exist =
      let there : last < blocks view.level4 = rw w.stop (last_exists view place n w.some w.fits) in
      (omega (arith, ordered), there)

  -- as the code finds it: a block that is covered in full need not be asked
  pub ends_covered : (front back : Bool) → front ≡ covered view.level4 place n first → back ≡ covered view.level4 place n last → front && back ≡ true
      → (Ok tt) ≡ ends_outcome view image place n
  ends_covered true true f b e = refuse_none (rw (← f)) (rw (← b))
  ends_covered true false f b e = absurd (true≢false (sym e))
  ends_covered false back f b e = absurd (true≢false (sym e))

  module _ (front back : Bool) (f : front ≡ covered view.level4 place n first) (b : back ≡ covered view.level4 place n last) (partly : front && back ≡ false)
      (x y : ℕ) (lower : x ≡ cond front last first) (upper : y ≡ cond back first last) where
    pub ends_exist_both : (x < blocks view.level4) × (y < blocks view.level4)
    ends_exist_both = (rw lower (by front), rw upper (by' back))
      where
        by : (t : Bool) → cond t last first < blocks view.level4
        by true = ends_exist.1
        by false = ends_exist.0

        by' : (t : Bool) → cond t first last < blocks view.level4
        by' true = ends_exist.0
        by' false = ends_exist.1

    covered_passes : (k : ℕ) (t : Bool) → t ≡ covered view.level4 place n k → t ≡ true → passes k ≡ true
    covered_passes k t c e = ap (λ (v : Bool). v || verified view image 4 k) (sym c ∙ e)

    open_passes : (k : ℕ) (t : Bool) → t ≡ covered view.level4 place n k → t ≡ false → passes k ≡ verified view image 4 k
    open_passes k t c e = ap (λ (v : Bool). v || verified view image 4 k) (sym c ∙ e)

    pub ends_lower : verified view image 4 x ≡ false → Err (Unverified x) ≡ ends_outcome view image place n
    ends_lower v = by front back refl refl
      where
        by : (t u : Bool) → t ≡ front → u ≡ back → Err (Unverified x) ≡ ends_outcome view image place n
        by true true p q = absurd (true≢false (rw (← p, ← q) at partly))
        by true false p q =
            let e : x ≡ last = lower ∙ ap (λ (z : Bool). cond z last first) (sym p) in
            rw e (refuse_last (covered_passes first front f (sym p)) (open_passes last back b (sym q) ∙ rw e at v))
        by false u p q =
            let e : x ≡ first = lower ∙ ap (λ (z : Bool). cond z last first) (sym p) in
            rw e (refuse_first (open_passes first front f (sym p) ∙ rw e at v))

    first_good : verified view image 4 x ≡ true → passes first ≡ true
    first_good v = by front refl
      where
        by : (t : Bool) → t ≡ front → passes first ≡ true
        by true p = covered_passes first front f (sym p)
        by false p =
            let e : x ≡ first = lower ∙ ap (λ (z : Bool). cond z last first) (sym p) in
            open_passes first front f (sym p) ∙ rw e at v

    pub ends_upper : verified view image 4 x ≡ true → verified view image 4 y ≡ false → Err (Unverified y) ≡ ends_outcome view image place n
    ends_upper v w = by front back refl refl
      where
        by : (t u : Bool) → t ≡ front → u ≡ back → Err (Unverified y) ≡ ends_outcome view image place n
        by true true p q = absurd (true≢false (rw (← p, ← q) at partly))
        by false true p q =
            let e : x ≡ first = lower ∙ ap (λ (z : Bool). cond z last first) (sym p) in
            let d : y ≡ first = upper ∙ ap (λ (z : Bool). cond z first last) (sym q) in
            absurd (true≢false (sym (rw e at v) ∙ rw d at w))
        by t false p q =
            let d : y ≡ last = upper ∙ ap (λ (z : Bool). cond z first last) (sym q) in
            rw d (refuse_last (first_good v) (open_passes last back b (sym q) ∙ rw d at w))

    pub ends_none : verified view image 4 x ≡ true → verified view image 4 y ≡ true → (Ok tt) ≡ ends_outcome view image place n
    ends_none v w = refuse_none (first_good v) (by back refl)
      where
        by : (u : Bool) → u ≡ back → passes last ≡ true
        by true q = covered_passes last back b (sym q)
        by false q =
            let d : y ≡ last = upper ∙ ap (λ (z : Bool). cond z first last) (sym q) in
            open_passes last back b (sym q) ∙ rw d at w

-- ---- the whole order: 9, 10

module _ (view : View) (image : List ℕ) (place n : ℕ) where
  pub write_outside : inside place n view.level4.size ≡ false → Err OutOfRange ≡ write_outcome view image place n
  unfolding write_outcome inside
  write_outside e = sym (outside_refused view place n (ends_outcome view image place n) e)

  module _ (i : inside place n view.level4.size ≡ true) where
    write_inside : write_outcome view image place n ≡ ends_outcome view image place n
    unfolding write_outcome inside
    write_inside = inside_passes view place n (ends_outcome view image place n) i

    no_ends : n ≡ 0 → ends_outcome view image place n ≡ Ok tt
    unfolding ends_outcome
    no_ends e =
        nothing_touched (λ (b : ℕ). covered view.level4 place n b || verified view image 4 b) view place n e

    pub write_nothing : n ≡ 0 → (Ok tt) ≡ write_outcome view image place n
    write_nothing e = sym (write_inside ∙ no_ends e)

    pub write_ends : (r : Result (Unit {0}) Refusal) → r ≡ ends_outcome view image place n → r ≡ write_outcome view image place n
    write_ends r e = e ∙ sym write_inside

    pub end_rules : (first last : ℕ) → (n ≡ 0 → ⊥) → first ≡ block_of view.level4 place → last ≡ block_of view.level4 (place + (n - 1))
        → EndRules view place n first last
    unfolding inside
    end_rules first last some f l = record {
      some = positive view image place n i first last some f l;
      fits = leb-true (place + n) view.level4.size i;
      start = f;
      stop = last_is view image place n i first last some f l;
    }
