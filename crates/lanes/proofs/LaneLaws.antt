-- From the rules of the flat lists to each lane: its schedule, its rounds and its sums are those of the standard. Assumes nothing.
use mathlib.Core.Path.{◌≡◌, sym, ap, ap₂, ◌∙◌}
use mathlib.Core.List.{List, [], ◌∷◌, ◌++◌}
use mathlib.Core.Logic.{⊎_elim}
use Prim.Native.Nat.{ℕ, zero, suc, ◌+◌, ◌-◌, ◌*◌, ◌/◌, ◌%◌, ◌≤◌, ◌<◌}
use native.Mathlib.Nat.{eq-or-lt_of_le, le_of_suc-le-suc}
use native.Mathlib.Omega.{arith}
use borrow.Author.Count.{below_more}
use lib.ListN.{get_or, get_or-append}
use lib.Seq.{get_or_at}
use Rattle.sha256.specs.declared.block.Vars.{Vars}
use Rattle.sha256.specs.Word.{◌⊞◌, σ₀, σ₁}
use Rattle.sha256.specs.Sha256.{K, H₀, word, words as words_of, schedule, round, rounds, added, compress}
use Rattle.sha256.proofs.Schedules.{length_words, block_word, word_of, next_at}
use Rattle.lanes.specs.Flat.{Agree, Loaded, Spread, next_word, Scheduled, temp₁, temp₂, Turned, vars_at, hash_of, Started, Folded}

-- ---- the schedule of a lane

-- a lane of the flat list holds the first words of a schedule
abbrev Follows : List ℕ → (l : ℕ) → List ℕ → (count : ℕ) → Type 0
Follows words l W count = (t : ℕ) → t < count → get_or words (t * 8 + l) 0 ≡ get_or W t 0

words_at : (b : List ℕ) (n t : ℕ) → t < n → get_or (words_of b n) t 0 ≡ word b t
unfolding words_of
words_at b zero t h = absurd (omega arith)
words_at b (suc n) t h =
    ⊎_elim
    (λ e. ap (λ (x : ℕ). get_or (words_of b n ++ (word b n ∷ [])) x 0) e ∙ get_or_at (words_of b n) (word b n) [] 0 n (length_words b n) ∙ ap (word b) (sym e))
    (λ l. get_or-append (words_of b n) (word b n ∷ []) 0 t (omega (arith, length_words b n)) ∙ words_at b n t l)
    (eq-or-lt_of_le (le_of_suc-le-suc h))

-- the sixteen words that are loaded
follows_loaded : (words : List ℕ) (block : ℕ → List ℕ) (l : ℕ) → l < 8 → Loaded words block 128 → Follows words l (schedule (block l) 48) 16
follows_loaded words block l hl loaded t h =
    let lane : (t * 8 + l) % 8 ≡ l = omega arith in
    let row : (t * 8 + l) / 8 ≡ t = omega arith in
    loaded (t * 8 + l) (omega arith) ∙ ap₂ (λ (x y : ℕ). word (block x) y) lane row ∙ sym (words_at (block l) 16 t h) ∙ block_word (block l) t h

next_of_lane : (words W : List ℕ) (l n : ℕ) → Follows words l W (16 + n)
    → next_word words (n * 8 + l) ≡ σ₁ (get_or W (n + 14) 0) ⊞ get_or W (n + 9) 0 ⊞ σ₀ (get_or W (n + 1) 0) ⊞ get_or W (n + 0) 0
unfolding next_word
next_of_lane words W l n h =
    let p₁₄ : n * 8 + l + 112 ≡ (n + 14) * 8 + l = omega arith in
    let p₉ : n * 8 + l + 72 ≡ (n + 9) * 8 + l = omega arith in
    let p₁ : n * 8 + l + 8 ≡ (n + 1) * 8 + l = omega arith in
    let p₀ : n * 8 + l ≡ (n + 0) * 8 + l = omega arith in
    let at : (m j : ℕ) → j ≡ m * 8 + l → m < 16 + n → get_or words j 0 ≡ get_or W m 0 = λ m j e g. ap (λ (x : ℕ). get_or words x 0) e ∙ h m g in
    simp (at (n + 14) (n * 8 + l + 112) p₁₄ (omega arith), at (n + 9) (n * 8 + l + 72) p₉ (omega arith), at (n + 1) (n * 8 + l + 8) p₁ (omega arith), at (n + 0) (n * 8 + l) p₀ (omega arith))

follows_more : (words b : List ℕ) (l n : ℕ) → l < 8 → n < 48 → Scheduled words 384 → Follows words l (schedule b 48) (16 + n)
    → Follows words l (schedule b 48) (16 + n + 1)
follows_more words b l n hl hn scheduled h =
    let W = schedule b 48 in
    let p : (16 + n) * 8 + l ≡ n * 8 + l + 128 = omega arith in
    below_more (λ (t : ℕ). get_or words (t * 8 + l) 0 ≡ get_or W t 0) (16 + n) h
    (ap (λ (x : ℕ). get_or words x 0) p ∙ scheduled (n * 8 + l) (omega arith) ∙ next_of_lane words W l n h ∙ sym (next_at W n) ∙ sym (word_of b n hn))

follows_to : (words b : List ℕ) (l n : ℕ) → l < 8 → n ≤ 48 → Scheduled words 384 → Follows words l (schedule b 48) 16 → Follows words l (schedule b 48) (16 + n)
follows_to words b l zero hl hn scheduled h = h
follows_to words b l (suc n) hl hn scheduled h =
    let e : 16 + suc n ≡ 16 + n + 1 = omega arith in
    rw e (follows_more words b l n hl (omega arith) scheduled (follows_to words b l n hl (omega arith) scheduled h))

-- ---- the rounds of a lane

round_at : (constants words a e : List ℕ) (j : ℕ) → j < 512 → Turned constants words a e 512
    → vars_at a e (j + 8) ≡ round (vars_at a e j) (get_or constants j 0) (get_or words j 0)
unfolding round temp₁ temp₂
round_at constants words a e j h turned =
    let p₂₄ : j + 8 + 24 ≡ j + 32 = omega arith in
    let p₁₆ : j + 8 + 16 ≡ j + 24 = omega arith in
    let p₈ : j + 8 + 8 ≡ j + 16 = omega arith in
    let new-a = ap (λ (x : ℕ). get_or a x 0) p₂₄ ∙ turned.of_a j h in
    let new-e = ap (λ (x : ℕ). get_or e x 0) p₂₄ ∙ turned.of_e j h in
    λ i. record { a = new-a i; b = get_or a (p₁₆ i) 0; c = get_or a (p₈ i) 0; d = get_or a (j + 8) 0; e = new-e i; f = get_or e (p₁₆ i) 0; g = get_or e (p₈ i) 0; h = get_or e (j + 8) 0 }

lane_rounds : (constants words a e W : List ℕ) (l t : ℕ) → l < 8 → t ≤ 64 → Spread constants 512 → Follows words l W 64 → Turned constants words a e 512
    → vars_at a e (t * 8 + l) ≡ rounds W (vars_at a e l) t
unfolding rounds
lane_rounds constants words a e W l zero hl ht spread follows turned =
    let p : 0 * 8 + l ≡ l = omega arith in
    ap (vars_at a e) p
lane_rounds constants words a e W l (suc t) hl ht spread follows turned =
    let p : suc t * 8 + l ≡ t * 8 + l + 8 = omega arith in
    let row : (t * 8 + l) / 8 ≡ t = omega arith in
    let k : get_or constants (t * 8 + l) 0 ≡ get_or K t 0 = spread (t * 8 + l) (omega arith) ∙ ap (λ (x : ℕ). get_or K x 0) row in
    ap (vars_at a e) p ∙ round_at constants words a e (t * 8 + l) (omega arith) turned
    ∙ ap₂ (λ (x y : ℕ). round (vars_at a e (t * 8 + l)) x y) k (follows t (omega arith))
    ∙ ap (λ (v : Vars). round v (get_or K t 0) (get_or W t 0)) (lane_rounds constants words a e W l t hl (omega arith) spread follows turned)

-- ---- the hash value of a lane

-- the rounds leave what they begin with
kept : (a₀ e₀ a e : List ℕ) (l : ℕ) → l < 8 → Agree a₀ a 32 → Agree e₀ e 32 → vars_at a e l ≡ vars_at a₀ e₀ l
kept a₀ e₀ a e l hl of_a of_e =
    let a₂₄ = of_a (l + 24) (omega arith) in
    let a₁₆ = of_a (l + 16) (omega arith) in
    let a₈ = of_a (l + 8) (omega arith) in
    let a₁ = of_a l (omega arith) in
    let e₂₄ = of_e (l + 24) (omega arith) in
    let e₁₆ = of_e (l + 16) (omega arith) in
    let e₈ = of_e (l + 8) (omega arith) in
    let e₁ = of_e l (omega arith) in
    λ i. record { a = a₂₄ i; b = a₁₆ i; c = a₈ i; d = a₁ i; e = e₂₄ i; f = e₁₆ i; g = e₈ i; h = e₁ i }

lane_folded : (a e a₁ e₁ : List ℕ) (l : ℕ) → l < 8 → Folded a a₁ 32 → Folded e e₁ 32 → hash_of a₁ e₁ l ≡ added (vars_at a e l) (vars_at a e (64 * 8 + l))
unfolding added
lane_folded a e a₁ e₁ l hl of_a of_e =
    let sum : (x x₁ : List ℕ) → Folded x x₁ 32 → (j m : ℕ) → j < 32 → j + 512 ≡ m → get_or x₁ j 0 ≡ get_or x m 0 ⊞ get_or x j 0
    = λ x x₁ folded j m h p. folded j h ∙ ap (λ (q : ℕ). get_or x q 0 ⊞ get_or x j 0) p in
    let a₂₄ = sum a a₁ of_a (l + 24) (64 * 8 + l + 24) (omega arith) (omega arith) in
    let a₁₆ = sum a a₁ of_a (l + 16) (64 * 8 + l + 16) (omega arith) (omega arith) in
    let a₈ = sum a a₁ of_a (l + 8) (64 * 8 + l + 8) (omega arith) (omega arith) in
    let a₀ = sum a a₁ of_a l (64 * 8 + l) (omega arith) (omega arith) in
    let e₂₄ = sum e e₁ of_e (l + 24) (64 * 8 + l + 24) (omega arith) (omega arith) in
    let e₁₆ = sum e e₁ of_e (l + 16) (64 * 8 + l + 16) (omega arith) (omega arith) in
    let e₈ = sum e e₁ of_e (l + 8) (64 * 8 + l + 8) (omega arith) (omega arith) in
    let e₀ = sum e e₁ of_e l (64 * 8 + l) (omega arith) (omega arith) in
    λ i. a₂₄ i ∷ a₁₆ i ∷ a₈ i ∷ a₀ i ∷ e₂₄ i ∷ e₁₆ i ∷ e₈ i ∷ e₀ i ∷ []

-- one block more: what the standard makes of the lane's hash value and block
pub lane_compress : (constants words₀ words a₀ e₀ a e a₁ e₁ : List ℕ) (block : ℕ → List ℕ) (l : ℕ) → l < 8 → Spread constants 512 → Loaded words₀ block 128
    → Agree words₀ words 128 → Scheduled words 384 → Agree a₀ a 32 → Agree e₀ e 32 → Turned constants words a e 512 → Folded a a₁ 32 → Folded e e₁ 32
    → hash_of a₁ e₁ l ≡ compress (hash_of a₀ e₀ l) (block l)
unfolding compress
lane_compress constants words₀ words a₀ e₀ a e a₁ e₁ block l hl spread loaded same scheduled of_a of_e turned fold-a fold-e =
    let W = schedule (block l) 48 in
    let first : Loaded words block 128 = λ j h. same j h ∙ loaded j h in
    let follows : Follows words l W 64 = follows_to words (block l) l 48 hl (omega arith) scheduled (follows_loaded words block l hl first) in
    let turns : vars_at a e (64 * 8 + l) ≡ rounds W (vars_at a e l) 64 = lane_rounds constants words a e W l 64 hl (omega arith) spread follows turned in
    lane_folded a e a₁ e₁ l hl fold-a fold-e ∙ ap (added (vars_at a e l)) turns
    ∙ ap (λ (v : Vars). added v (rounds W v 64)) (kept a₀ e₀ a e l hl of_a of_e)

-- the lanes begin with the initial hash value
pub lane_started : (a e : List ℕ) (l : ℕ) → l < 8 → Started a 3 32 → Started e 7 32 → hash_of a e l ≡ H₀
lane_started a e l hl of_a of_e =
    let at : (x : List ℕ) (from : ℕ) → Started x from 32 → (j m : ℕ) → j < 32 → from - j / 8 ≡ m → get_or x j 0 ≡ get_or H₀ m 0
    = λ x from started j m h p. started j h ∙ ap (λ (q : ℕ). get_or H₀ q 0) p in
    let a₂₄ = at a 3 of_a (l + 24) 0 (omega arith) (omega arith) in
    let a₁₆ = at a 3 of_a (l + 16) 1 (omega arith) (omega arith) in
    let a₈ = at a 3 of_a (l + 8) 2 (omega arith) (omega arith) in
    let a₀ = at a 3 of_a l 3 (omega arith) (omega arith) in
    let e₂₄ = at e 7 of_e (l + 24) 4 (omega arith) (omega arith) in
    let e₁₆ = at e 7 of_e (l + 16) 5 (omega arith) (omega arith) in
    let e₈ = at e 7 of_e (l + 8) 6 (omega arith) (omega arith) in
    let e₀ = at e 7 of_e l 7 (omega arith) (omega arith) in
    λ i. a₂₄ i ∷ a₁₆ i ∷ a₈ i ∷ a₀ i ∷ e₂₄ i ∷ e₁₆ i ∷ e₈ i ∷ e₀ i ∷ []
