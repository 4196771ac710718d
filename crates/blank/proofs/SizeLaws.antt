-- The sizes of a blank image for 1 to 4096 blocks, as linear facts. Assumes nothing.
use Prim.Native.Nat.{ℕ, suc, ◌+◌, ◌-◌, ◌*◌, ◌/◌, ◌%◌, ◌≤◌, ◌<◌, min}
use mathlib.Core.Bool.{true}
use mathlib.Core.Path.{◌≡◌, refl, sym, ap, ◌∙◌}
use native.Mathlib.Omega.{arith}
use native.Mathlib.Nat.{lt-mul-div-succ, mul-div-le, div-eq_of_lt-le, div-lt_iff_lt-mul, mul_comm, mul-add, mul_assoc, suc-mul, mul-le-mul_left}
use borrow.Author.Tests.{leb-true}
use Rattle.std.proofs.lemmas.Grind.{div_ceil_times}
use lib.Dec.{leb}
use Rattle.number.proofs.Tests.{and_left, and_right}
use Rattle.blank.specs.Sizes.{blocks_allowed, up, next, bits_for, h1, h2, h3, place4, size1, size2, size3, place2, place3, partition_size, image_size}

-- rounded up: enough, and less than one unit too many
pub record Rounded (x unit r : ℕ) : Type 0 where
  pub enough : x ≤ unit * r
  pub tight : unit * r < x + unit

pub rounded : (x unit : ℕ) → 0 < unit → Rounded x unit (up x unit)
unfolding up
rounded x unit h = record {
  enough = omega (arith, lt-mul-div-succ (x + (unit - 1)) h, more);
  tight = omega (arith, mul-div-le (x + (unit - 1)) unit);
}
  where
    more : unit * ((x + (unit - 1)) / unit + 1) ≡ unit * ((x + (unit - 1)) / unit) + unit
    more = omega arith

-- no smaller number of units is enough
pub fewest : (x unit k : ℕ) → 0 < unit → x ≤ unit * k → up x unit ≤ k
unfolding up
fewest x unit k h e =
    let m : unit * k ≡ k * unit = mul_comm unit k in
    let q : (x + (unit - 1)) / unit < suc k = (div-lt_iff_lt-mul {x = x + (unit - 1)} {y = suc k} h).1 (rw (suc-mul k unit) (omega arith)) in
    omega arith

-- so `next` is the next multiple at or after x, and `bits_for` the least multiple with enough bits
pub next_reaches : (x unit : ℕ) → 0 < unit → x ≤ next x unit
unfolding next
next_reaches x unit h = (rounded x unit h).enough

pub next_least : (x unit k : ℕ) → 0 < unit → x ≤ unit * k → next x unit ≤ unit * k
unfolding next
next_least x unit k h e = mul-le-mul_left unit (fewest x unit k h e)

pub bits_enough : (count unit : ℕ) → 0 < unit → count ≤ 8 * bits_for count unit
unfolding bits_for
bits_enough count unit h =
    let e : 8 * unit * up count (8 * unit) ≡ 8 * (unit * up count (8 * unit)) = mul_assoc 8 unit (up count (8 * unit)) in
    omega (arith, (rounded count (8 * unit) (omega arith)).enough)

pub bits_least : (count unit k : ℕ) → 0 < unit → count ≤ 8 * (unit * k) → bits_for count unit ≤ unit * k
unfolding bits_for
bits_least count unit k h e =
    let m : 8 * unit * k ≡ 8 * (unit * k) = mul_assoc 8 unit k in
    mul-le-mul_left unit (fewest count (8 * unit) k (omega arith) (omega arith))

pub allowed_range : (n : ℕ) → blocks_allowed n ≡ true → (1 ≤ n) × (n ≤ 4096)
unfolding blocks_allowed
allowed_range n e = (leb-true 1 n (and_left (leb 1 n) _ e), leb-true n 4096 (and_right (leb 1 n) _ e))

-- every size by the blocks that it counts: c of IVFC level 3, d of level 2; k and n of DPFS level 3, s of its level 2
pub record Sized (n : ℕ) : Type 0 where
  pub c : ℕ
  pub d : ℕ
  pub k : ℕ
  pub s : ℕ
  pub range_c : (1 ≤ c) × (c ≤ 32)
  pub round_c : Rounded (32 * n) 0x1000 c
  pub range_d : (1 ≤ d) × (d ≤ 2)
  pub round_d : Rounded (32 * c) 0x200 d
  pub range_k : (1 ≤ k) × (k ≤ 33)
  pub round_k : Rounded (32 * d + 32 * c + 32 * n) 0x1000 k
  pub range_s : (1 ≤ s) × (s ≤ 5)
  pub round_s : Rounded (k + n) 0x400 s
  pub h3_is : h3 n ≡ 32 * n
  pub h2_is : h2 n ≡ 32 * c
  pub h1_is : h1 n ≡ 32 * d
  pub place4_is : place4 n ≡ 0x1000 * k
  pub size3_is : size3 n ≡ 0x1000 * (k + n)
  pub size2_is : size2 n ≡ 0x80 * s
  pub size1_is : size1 n ≡ 4
  pub place2_is : place2 n ≡ 8
  pub place3_is : place3 n ≡ 0x1000
  pub partition_is : partition_size n ≡ 0x1000 + 2 * (0x1000 * (k + n))
  pub image_is : image_size n ≡ 0x2000 + 2 * (0x1000 * (k + n))

-- a number between two multiples of the unit, the second included, is rounded up to the second
pub rounds_to : (x unit m : ℕ) → 0 < unit → x ≤ unit * m → unit * m < x + unit → up x unit ≡ m
unfolding up
rounds_to x unit m h enough tight =
    div-eq_of_lt-le {k = m} unit (rw (mul_comm m unit) (omega arith)) (rw (mul_comm (m + 1) unit, mul-add unit m 1) (omega arith))

-- so the library's quotient that is rounded up is `up`, and its multiple at or after x is `next`
pub ceiling_is : (x unit : ℕ) → 0 < unit → x / unit + min 1 (x % unit) ≡ up x unit
ceiling_is x unit h =
    let q : ℕ = x / unit + min 1 (x % unit) in
    let d : (x ≤ q * unit) × (q * unit < x + unit) = div_ceil_times x unit h in
    sym (rounds_to x unit q h (rw (mul_comm unit q) d.0) (rw (mul_comm unit q) d.1))

pub multiple_is : (x unit r : ℕ) → 0 < unit → x ≤ r → r < x + unit → r % unit ≡ 0 → r ≡ next x unit
unfolding next
multiple_is x unit r h enough tight whole =
    let e : unit * (r / unit) ≡ r = omega arith in
    sym e ∙ ap (λ (k : ℕ). unit * k) (sym (rounds_to x unit (r / unit) h (omega arith) (omega arith)))

pub sized : (n : ℕ) → 1 ≤ n → n ≤ 4096 → Sized n
unfolding h1 h2 h3 place4 next bits_for size1 size2 size3 place2 place3 partition_size image_size
sized n low high =
    let c : ℕ = up (32 * n) 0x1000 in
    let rc : Rounded (32 * n) 0x1000 c = rounded (32 * n) 0x1000 (omega arith) in
    let d : ℕ = up (32 * c) 0x200 in
    let rd : Rounded (32 * c) 0x200 d = rounded (32 * c) 0x200 (omega arith) in
    let k : ℕ = up (32 * d + 32 * c + 32 * n) 0x1000 in
    let rk : Rounded (32 * d + 32 * c + 32 * n) 0x1000 k = rounded (32 * d + 32 * c + 32 * n) 0x1000 (omega arith) in
    let s : ℕ = up (k + n) 0x400 in
    let rs : Rounded (k + n) 0x400 s = rounded (k + n) 0x400 (omega arith) in
    let e3 : up (size3 n) 0x1000 ≡ k + n = rounds_to (0x1000 * k + 0x1000 * n) 0x1000 (k + n) (omega arith) (omega arith) (omega arith) in
    let e2 : size2 n ≡ 0x80 * s = ap (λ (x : ℕ). 0x80 * up x 0x400) e3 in
    let b2 : up (size2 n) 0x80 ≡ s = ap (λ (x : ℕ). up x 0x80) e2 ∙ rounds_to (0x80 * s) 0x80 s (omega arith) (omega arith) (omega arith) in
    let one : up s 32 ≡ 1 = rounds_to s 32 1 (omega arith) (omega arith) (omega arith) in
    let e1 : size1 n ≡ 4 = ap (λ (x : ℕ). 4 * up x 32) b2 ∙ ap (λ (x : ℕ). 4 * x) one in
    let p3 : up (2 * size1 n + 2 * size2 n) 0x1000 ≡ 1 = rounds_to (2 * size1 n + 2 * size2 n) 0x1000 1 (omega arith) (omega arith) (omega arith) in
    let q3 : place3 n ≡ 0x1000 = ap (λ (x : ℕ). 0x1000 * x) p3 in
    record {
      c = c;
      d = d;
      k = k;
      s = s;
      range_c = (omega arith, omega arith);
      round_c = rc;
      range_d = (omega arith, omega arith);
      round_d = rd;
      range_k = (omega arith, omega arith);
      round_k = rk;
      range_s = (omega arith, omega arith);
      round_s = rs;
      h3_is = refl;
      h2_is = refl;
      h1_is = refl;
      place4_is = refl;
      size3_is = omega arith;
      size2_is = e2;
      size1_is = e1;
      place2_is = omega arith;
      place3_is = q3;
      partition_is = omega arith;
      image_is = omega arith;
    }
