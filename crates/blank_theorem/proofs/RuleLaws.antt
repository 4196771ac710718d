-- Rules that hold pass their tests. Assumes nothing.
use Prim.Native.Nat.{ℕ, ◌+◌, ◌%◌, ◌≤◌}
use mathlib.Core.Bool.{Bool, true, ◌&&◌}
use mathlib.Core.List.{List, [], ◌∷◌}
use mathlib.Core.Logic.{inl, inr}
use mathlib.Core.Path.{◌≡◌, refl}
use lib.Dec.{leb, eqb}
use borrow.Author.Tests.{le-leb, eq-eqb}
use Rattle.number.specs.declared.Range.{Range}
use Rattle.number.specs.declared.Level.{Level}
use Rattle.number.specs.Ranges.{inside, apart, Apart, fits, clear, placed}
use Rattle.number.proofs.Tests.{and_both, or_right}
use Rattle.number.proofs.RangeLaws.{AllApart, Laid}
use Rattle.layout.specs.Every.{onto, every}
use Rattle.limits.specs.Limits.{most_log, size_allowed, level_allowed}
use Rattle.layout.proofs.Rules.{Truths}

onto_of : (a : Bool) (rules : List Bool) → a ≡ true → Truths rules → onto a rules ≡ true
unfolding onto
onto_of a [] p t = p
onto_of a (b ∷ rest) p (q, t) = onto_of (a && b) rest (and_both a b p q) t

pub every_of : (rules : List Bool) → Truths rules → every rules ≡ true
unfolding every
every_of rules t = onto_of true rules refl t

apart_of : (a b : Range) → Apart a b → apart a b ≡ true
unfolding apart inside
apart_of a b (inl h) = rw (le-leb (a.offset + a.size) b.offset h)
apart_of a b (inr h) = or_right (leb (a.offset + a.size) b.offset) (leb (b.offset + b.size) a.offset) (le-leb (b.offset + b.size) a.offset h)

clear_of : (a : Range) (rest : List Range) → AllApart a rest → clear a rest ≡ true
unfolding clear
clear_of a [] t = refl
clear_of a (b ∷ rest) (p, t) = and_both (clear a rest) (apart a b) (clear_of a rest t) (apart_of a b p)

pub placed_of : (n : ℕ) (ranges : List Range) → Laid n ranges → placed n ranges ≡ true
unfolding placed fits inside
placed_of n [] t = refl
placed_of n (a ∷ rest) (f, t) =
    and_both (placed n rest) (clear a rest && fits n a) (placed_of n rest t)
    (and_both (clear a rest) (fits n a) (clear_of a rest f.apart)
    (and_both (leb 1 a.size) (leb (a.offset + a.size) n) (le-leb 1 a.size f.some) (le-leb (a.offset + a.size) n f.ends)))

pub size_of : (unit size : ℕ) → 1 ≤ size → size % unit ≡ 0 → size_allowed unit size ≡ true
unfolding size_allowed
size_of unit size h e = and_both (leb 1 size) (eqb (size % unit) 0) (le-leb 1 size h) (eq-eqb (size % unit) 0 e)

pub level_of_lem : (unit least : ℕ) (l : Level) → 1 ≤ l.size → l.size % unit ≡ 0 → least ≤ l.log → l.log ≤ most_log → level_allowed unit least l ≡ true
unfolding level_allowed
level_of_lem unit least l h e p q =
    and_both (size_allowed unit l.size && leb least l.log) (leb l.log most_log)
    (and_both (size_allowed unit l.size) (leb least l.log) (size_of unit l.size h e) (le-leb least l.log p))
    (le-leb l.log most_log q)
