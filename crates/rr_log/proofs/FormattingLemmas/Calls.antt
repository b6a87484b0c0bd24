-- The calls of a list made one by one, and how many writes they are.
use Rattle.std.proofs.Common.{◌≡◌, ℕ, zero, suc, ◌+◌, ◌-◌, ◌*◌, ◌<◌, ◌≤◌, List, [], ◌∷◌, ◌++◌, length, map, take, drop, get_or, replicate, refl, sym, ◌∙◌, ap, subst, arith, length-drop}
use Rattle.std.proofs.lemmas.List.{take_more, take_all, take-append-drop, get_or-map, length-replicate, length-map}
use Rattle.rr_disk.specs.Calls.{Step, Write, Sync, Account, after_steps, StopsWithin}
use Rattle.rr_disk.specs.Disk.{counted, counted_by}
use Rattle.rr_disk.proofs.CallLemmas.{stops_before, stops_behind, all_behind}
use Rattle.rr_pages.specs.declared.chain.FreshPage.{FreshPage}
use Rattle.rr_log.specs.Formatting.Calls.{page_call, zero_page, zeros_from}

-- one call more of a list
module _ (old mid : Account) (steps : List Step) (n : ℕ) (step : Step) (within : n < length steps) (is : get_or steps n Sync ≡ step) (so_far : mid ≡ after_steps old (take n steps)) (new : Account) where
  next : take (n + 1) steps ≡ take n steps ++ step ∷ []
  next = take_more steps n Sync within ∙ ap (λ (one : Step). take n steps ++ one ∷ []) is

  pub made_more : new ≡ after_steps mid (step ∷ []) → new ≡ after_steps old (take (n + 1) steps)
  made_more made =
      made ∙ (ap (λ (at : Account). after_steps at (step ∷ [])) so_far
      ∙ (all_behind old (take n steps) (step ∷ []) ∙ ap (λ (front : List Step). after_steps old front) (sym next)))

  pub stops_at : StopsWithin mid (step ∷ []) new → StopsWithin old steps new
  stops_at stops =
      subst (λ (all : List Step). StopsWithin old all new) (take-append-drop (n + 1) steps)
      (stops_before old new (take (n + 1) steps) (drop (n + 1) steps)
      (subst (λ (front : List Step). StopsWithin old front new) (sym next)
      (stops_behind old new (take n steps) (step ∷ []) (subst (λ (at : Account). StopsWithin at (step ∷ []) new) so_far stops))))

pub made_all : (old new : Account) (steps : List Step) (n : ℕ) → length steps ≤ n → new ≡ after_steps old (take n steps) → new ≡ after_steps old steps
made_all old new steps n past is = is ∙ ap (λ (made : List Step). after_steps old made) (take_all n steps past)

-- pages of zeros
pub length-zeros_from : (page count : ℕ) → length (zeros_from page count) ≡ count
unfolding zeros_from
length-zeros_from page zero = refl
length-zeros_from page (suc count) = ap suc (length-zeros_from (page + 1) count)

pub zeros_at : (page count n : ℕ) → n < count → get_or (zeros_from page count) n Sync ≡ Write (4096 * (page + n)) zero_page
unfolding zeros_from
zeros_at page zero n h = absurd (omega arith)
zeros_at page (suc count) zero h = ap (λ (at : ℕ). Write (4096 * at) zero_page) (omega arith)
zeros_at page (suc count) (suc n) h = zeros_at (page + 1) count n (omega arith) ∙ ap (λ (at : ℕ). Write (4096 * at) zero_page) (omega arith)

pub zero_page_is : replicate 4096 0 ≡ zero_page
unfolding zero_page
zero_page_is = refl

pub length-zero_page : length zero_page ≡ 4096
unfolding zero_page
length-zero_page = length-replicate {A = ℕ} 4096 0

-- how many writes are counted
pub counted_none : (n : ℕ) → n ≡ counted_by 0 n
unfolding counted_by
counted_none n = refl

pub counted_more : (count n new : ℕ) → new ≡ counted (counted_by count n) → new ≡ counted_by (count + 1) n
unfolding counted_by
counted_more count n new is = let one : suc count ≡ count + 1 = omega arith in is ∙ ap (λ (more : ℕ). counted_by more n) one

pub counted_both : (more count n : ℕ) → counted_by more (counted_by count n) ≡ counted_by (more + count) n
unfolding counted_by
counted_both zero count n = let none : count ≡ zero + count = omega arith in ap (λ (all : ℕ). counted_by all n) none
counted_both (suc more) count n =
    let one : suc (more + count) ≡ suc more + count = omega arith in
    ap counted (counted_both more count n) ∙ ap (λ (all : ℕ). counted_by all n) one

pub counted_most : (count n : ℕ) → counted_by count n ≤ n + count
unfolding counted_by
counted_most zero n = omega arith
counted_most (suc count) n = omega (arith, counted_most count n)

-- calls behind others
pub all_then : (old mid new : Account) (front steps : List Step) → mid ≡ after_steps old front → new ≡ after_steps mid steps → new ≡ after_steps old (front ++ steps)
all_then old mid new front steps first then = then ∙ (ap (λ (at : Account). after_steps at steps) first ∙ all_behind old front steps)

pub stops_then : (old mid new : Account) (front steps : List Step) → mid ≡ after_steps old front → StopsWithin mid steps new → StopsWithin old (front ++ steps) new
stops_then old mid new front steps first stops = stops_behind old new front steps (subst (λ (at : Account). StopsWithin at steps new) first stops)

pub counted_once : (n : ℕ) → counted n ≡ counted_by 1 n
unfolding counted_by
counted_once n = refl

pub counted_fewer : (count most n mid new : ℕ) → count < most → mid ≡ counted_by count n → new ≡ counted mid → new ≤ n + most
counted_fewer count most n mid new fewer so_far more = omega (arith, fewer, so_far, more, counted_most count n)

-- a page of zeros more
module _ (old mid : Account) (page at : ℕ) (sent : List ℕ) (low : 2 ≤ page) (high : page < 514) (place : at ≡ page) (zeros : sent ≡ zero_page) (so_far : mid ≡ after_steps old (take (page - 2) (zeros_from 2 512))) (new : Account) where
  abbrev step : Step
  step = Write (4096 * at) sent

  below : page - 2 < length (zeros_from 2 512)
  below = omega (arith, low, high, length-zeros_from 2 512)

  is_next : get_or (zeros_from 2 512) (page - 2) Sync ≡ step
  is_next =
      let there : 2 + (page - 2) ≡ at = omega (arith, low, place) in
      zeros_at 2 512 (page - 2) (omega (arith, low, high)) ∙ (λ i. Write (4096 * there i) (sym zeros i))

  pub zeros_more : new ≡ after_steps mid (step ∷ []) → new ≡ after_steps old (take (page + 1 - 2) (zeros_from 2 512))
  zeros_more made =
      let count : page - 2 + 1 ≡ page + 1 - 2 = omega (arith, low) in
      made_more old mid (zeros_from 2 512) (page - 2) step below is_next so_far new made ∙ ap (λ (n : ℕ). after_steps old (take n (zeros_from 2 512))) count

  pub zeros_stop : StopsWithin mid (step ∷ []) new → StopsWithin old (zeros_from 2 512) new
  zeros_stop stops = stops_at old mid (zeros_from 2 512) (page - 2) step below is_next so_far new stops

pub behind_gate : (zeros : List ℕ) → zeros ≡ zero_page → take (length zeros - 1) (drop 1 zeros) ≡ drop 1 zero_page
behind_gate zeros is = take_all (length zeros - 1) (drop 1 zeros) (omega (arith, length-drop 1 zeros)) ∙ ap (λ (all : List ℕ). drop 1 all) is

-- a data page more
module _ (old mid : Account) (fresh : List FreshPage) (n : ℕ) (page : FreshPage) (at : ℕ) (sent : List ℕ) (within : n < length fresh) (item : page ≡ get_or fresh n page) (place : at ≡ page.page) (bytes : sent ≡ page.bytes.items)
    (so_far : mid ≡ after_steps old (take n (map page_call fresh))) (new : Account) where
  pages_below : n < length (map page_call fresh)
  pages_below = omega (arith, within, length-map fresh page_call)

  page_next : get_or (map page_call fresh) n Sync ≡ Write (4096 * at) sent
  page_next =
      get_or-map page_call fresh n page Sync within
      ∙ (ap page_call (sym item) ∙ (λ i. Write (4096 * sym place i) (sym bytes i)))

  pub pages_more : new ≡ after_steps mid (Write (4096 * at) sent ∷ []) → new ≡ after_steps old (take (n + 1) (map page_call fresh))
  pages_more made = made_more old mid (map page_call fresh) n (Write (4096 * at) sent) pages_below page_next so_far new made

  pub pages_stop : StopsWithin mid (Write (4096 * at) sent ∷ []) new → StopsWithin old (map page_call fresh) new
  pages_stop stops = stops_at old mid (map page_call fresh) n (Write (4096 * at) sent) pages_below page_next so_far new stops

-- the writes of all calls before the gate, and with that
module _ (n w0 w1 w2 w3 w4 : ℕ) (first : w1 ≡ counted w0) (zeros : w2 ≡ counted_by 513 w1) (pages : w3 ≡ counted_by n w2) (root : w4 ≡ counted w3) where
  pub counted_closed : w4 ≡ counted_by (514 + n + 1) w0
  counted_closed =
      let two : w2 ≡ counted_by 514 w0 = zeros ∙ (ap (λ (w : ℕ). counted_by 513 w) (first ∙ counted_once w0) ∙ counted_both 513 1 w0) in
      let three : w3 ≡ counted_by (n + 514) w0 = pages ∙ (ap (λ (w : ℕ). counted_by n w) two ∙ counted_both n 514 w0) in
      let all : n + 514 + 1 ≡ 514 + n + 1 = omega arith in
      counted_more (n + 514) w0 w4 (root ∙ ap counted three) ∙ ap (λ (count : ℕ). counted_by count w0) all

pub counted_laid : (n w0 w4 w5 : ℕ) → w4 ≡ counted_by (514 + n + 1) w0 → w5 ≡ counted w4 → w5 ≡ counted_by (514 + n + 2) w0
counted_laid n w0 w4 w5 closed gate =
    let all : 514 + n + 1 + 1 ≡ 514 + n + 2 = omega arith in
    counted_more (514 + n + 1) w0 w5 (gate ∙ ap counted closed) ∙ ap (λ (count : ℕ). counted_by count w0) all
