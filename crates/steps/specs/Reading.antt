-- Reading a view, and the questions about it.
use Rattle.std.specs.Prelude.{ℕ, suc, ◌+◌, ◌-◌, Bool, cond, List, length, leb, ltb, eqb, Result, Ok, Err}
use Rattle.layout.specs.declared.Refusal.{Refusal}
use Rattle.number.specs.declared.Level.{Level}
use Rattle.number.specs.Blocks.{blocks, block_of, last_block}
use Rattle.number.specs.Bytes.{bytes}
use Rattle.layout.specs.declared.Refusal.TheVariants.{OutOfRange, Unverified}
use Rattle.ivfc.specs.declared.View.{View}
use Rattle.ivfc.specs.Views.{content_of, verified}
use Rattle.ivfc.specs.Verified.{first_not, count_of}

-- how many blocks a range touches: those from that of its first byte to that of its last
unfoldable pub touched : Level → (place n : ℕ) → ℕ
touched l place n = cond (eqb n 0) 0 (suc (last_block l place n) - block_of l place)

-- 10: the lowest touched block of level 4 at which P does not hold is refused; with none the call is accepted
unfoldable pub refuse_lowest : (P : ℕ → Bool) → View → (place n : ℕ) → Result (Unit {0}) Refusal
refuse_lowest P view place n =
    cond (ltb (first_not P (block_of view.level4 place) (touched view.level4 place n))
    (block_of view.level4 place + touched view.level4 place n))
    (Err (Unverified (first_not P (block_of view.level4 place) (touched view.level4 place n))))
    (Ok tt)

-- 9: place plus length, as whole numbers, exceeds level 4's size
unfoldable pub refuse_outside : View → (place n : ℕ) → Result (Unit {0}) Refusal → Result (Unit {0}) Refusal
refuse_outside view place n next = cond (leb (place + n) view.level4.size) next (Err OutOfRange)

-- a read: 9, then 10 with the lowest touched block that is not verified
unfoldable pub read_outcome : View → List ℕ → (place n : ℕ) → Result (Unit {0}) Refusal
read_outcome view image place n = refuse_outside view place n (refuse_lowest (verified view image 4) view place n)

-- what a read leaves: its outcome, and the buffer
pub record Read : Type 0 where
  pub outcome : Result (Unit {0}) Refusal
  pub buffer : List ℕ

-- a read that succeeds fills its whole buffer with level 4's bytes; else no byte of it changes
abbrev pub filled : Result (Unit {0}) Refusal → (before content : List ℕ) → List ℕ
filled (Ok tt) before content = content
filled (Err r) before content = before

unfoldable pub read_from : View → List ℕ → (place : ℕ) → (buffer : List ℕ) → Read
read_from view image place buffer = record {
  outcome = read_outcome view image place (length buffer);
  buffer = filled (read_outcome view image place (length buffer)) buffer (bytes (content_of view image 4) place (length buffer));
}

-- is block b of level 4 verified: 9 for a block number past the last, then yes or no
unfoldable pub verdict_on : View → List ℕ → (b : ℕ) → Result Bool Refusal
verdict_on view image b = cond (ltb b (blocks view.level4)) (Ok (verified view image 4 b)) (Err OutOfRange)

-- how many blocks of level 4 are verified
unfoldable pub count_in : View → List ℕ → Result ℕ Refusal
count_in view image = Ok (count_of (verified view image 4) (blocks view.level4))
