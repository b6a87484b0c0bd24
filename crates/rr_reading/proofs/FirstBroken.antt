-- Of chains of which one is broken there is a first one, and those before it are there.
use Rattle.std.proofs.Common.{◌≡◌, ◌≢◌, inl, inr, ℕ, ◌+◌, ◌-◌, ◌*◌, ◌<◌, ◌≤◌, Bool, true, false, nat_lt, if◌then◌else◌, List, [], ◌∷◌, ◌++◌, length, take, drop, Option, None, Some, refl, sym, ap, ◌∙◌, subst, arith, get_or-take, get_or-drop}
use Rattle.std.specs.List.{list_any}
use Rattle.std.proofs.lemmas.Bool.{or_parts, ltb-false}
use Rattle.std.proofs.lemmas.List.{length-take-le, length-drop}
use Rattle.rr_images.specs.Following.{AllRead}
use Rattle.rr_images.specs.Holding.{HeldChain}
use Rattle.rr_pages.specs.declared.fault.Damage.{Damage}
use Rattle.rr_pages.specs.declared.fault.Damage.TheVariants.{UsedBytes}
use Rattle.rr_pages.specs.Chains.{next_of, used_of, Links}
use Rattle.rr_pages.specs.Pages.{StandsAt}
use Rattle.rr_pages.specs.Reading.{IsWhole, IsBroken}
use Rattle.rr_pages.specs.Sets.{marked, all_marked}
use Rattle.rr_pages.specs.Walk.{Walk, damage_of}
use Rattle.rr_reading.specs.Chains.{FoundChain, AllFollowed, HasOne, damage_in}
use Rattle.rr_reading.proofs.Least.{IsAtMost}

pub damage_told : (told : Option Damage) (n : ℕ) → IsAtMost told n → (damage : Damage) × (told ≡ Some damage)
damage_told None n low = absurd low
damage_told (Some damage) n low = (damage, refl)

over_of : (t : Bool) (rest : Option Damage) → (if t then Some UsedBytes else rest) ≡ None → t ≡ false
over_of true rest is = absurd (cc)
over_of false rest is = refl

module _ (file : List ℕ) (count : ℕ) (within : 4096 * count ≤ length file) where
  -- the bytes that a page has
  bytes_at : ℕ → ℕ → List ℕ
  bytes_at page used = take used (drop (4096 * page + 10) file)

  bytes_long : (page used : ℕ) → page < count → used ≤ 4086 → length (bytes_at page used) ≡ used
  unfolding bytes_at
  bytes_long page used inside few =
      let left : length (drop (4096 * page + 10) file) ≡ length file - (4096 * page + 10) = length-drop (4096 * page + 10) file in
      length-take-le used (drop (4096 * page + 10) file) (omega arith)

  bytes_stand : (page used : ℕ) → page < count → used ≤ 4086 → StandsAt file (4096 * page + 10) (bytes_at page used)
  unfolding bytes_at
  bytes_stand page used inside few i below =
      let long : length (take used (drop (4096 * page + 10) file)) ≡ used = bytes_long page used inside few in
      sym (get_or-take used (drop (4096 * page + 10) file) i 0 (omega arith) ∙ get_or-drop (4096 * page + 10) file i 0)

  links_end : (next : ℕ) (pages : List ℕ) → pages ≡ [] → next ≡ 0 → Links file next pages []
  links_end next pages none zero_next = subst (λ (ps : List ℕ). Links file next ps []) (sym none) (zero_next, refl)

  links_there : (reached : List Bool) (head : ℕ) (pages : List ℕ) → Walk file count reached head pages None → list_any (λ page. nat_lt 4086 (used_of file page)) pages ≡ false → (text : List ℕ) × Links file head pages text
  links_there reached head [] (inl outside) few = absurd (cc (outside.1))
  links_there reached head [] (inr twice) few = absurd (cc (twice.2))
  links_there reached head (page ∷ pages) walk few =
      let halves = or_parts (nat_lt 4086 (used_of file page)) (list_any (λ (p : ℕ). nat_lt 4086 (used_of file p)) pages) few in
      let short : used_of file page ≤ 4086 = ltb-false 4086 (used_of file page) halves.0 in
      let long : length (bytes_at page (used_of file page)) ≡ used_of file page = bytes_long page (used_of file page) walk.1.1 short in
      let rest : (text : List ℕ) × Links file (next_of file page) pages text = elim walk.3 [
        | inl ends ↦ ([], links_end (next_of file page) pages ends.1 ends.0)
        | inr goes ↦ links_there (marked reached page) (next_of file page) pages goes.1 halves.1
      ] in (
        bytes_at page (used_of file page) ++ rest.0,
        (
          walk.0,
          next_of file page,
          bytes_at page (used_of file page),
          rest.0,
          refl,
          record { next_page = refl; used = sym long; fits = omega (arith, long, short); standing = bytes_stand page (used_of file page) walk.1.1 short },
          rest.1,
        ),
      )

  walk_some : (reached : List Bool) (head : ℕ) (pages : List ℕ) → Walk file count reached head pages None → head ≢ 0
  walk_some reached head [] (inl outside) = absurd (cc (outside.1))
  walk_some reached head [] (inr twice) = absurd (cc (twice.2))
  walk_some reached head (page ∷ pages) walk = λ none. absurd (omega (arith, walk.0, walk.1.0, none))

  -- a chain that was followed to its end and breaks nothing is there
  chain_there : (before : List Bool) (head : ℕ × ℕ) (pages : List ℕ) → Walk file count before head.0 pages None → damage_of file pages None (Some head.1) ≡ None
      → (text : List ℕ) × IsWhole file count before head.0 (Some head.1) (all_marked before pages) pages text
  chain_there before head pages walk unbroken =
      let few = over_of (list_any (λ (page : ℕ). nat_lt 4086 (used_of file page)) pages) _ unbroken in
      let there = links_there before head.0 pages walk few in
      (there.0, record { walk = walk; unbroken = unbroken; chain = (walk_some before head.0 pages walk, there.1); marks = refl })

  end_none : (chain : FoundChain) (end : Option Damage) → chain.end ≡ end → damage_of file chain.pages end chain.stated ≡ None → end ≡ None
  end_none chain None is unbroken = refl
  end_none chain (Some damage) is unbroken = absurd (cc)

  found_there : (before : List Bool) (head : ℕ × ℕ) (chain : FoundChain) → chain.stated ≡ Some head.1 → Walk file count before head.0 chain.pages chain.end → damage_in file chain ≡ None
      → (text : List ℕ) × IsWhole file count before head.0 (Some head.1) (all_marked before chain.pages) chain.pages text
  found_there before head chain stated walk unbroken =
      let whole : chain.end ≡ None = end_none chain chain.end refl unbroken in
      chain_there before head chain.pages (subst (λ (end : Option Damage). Walk file count before head.0 chain.pages end) whole walk)
      (subst (λ (said : Option ℕ). damage_of file chain.pages None said ≡ None) stated (subst (λ (end : Option Damage). damage_of file chain.pages end chain.stated ≡ None) whole unbroken))

  pub record FirstBroken (before : List Bool) (heads : List (ℕ × ℕ)) : Type 0 where
    pub damage : Damage
    pub front : List (ℕ × ℕ)
    pub head : ℕ × ℕ
    pub back : List (ℕ × ℕ)
    pub in_order : heads ≡ front ++ head ∷ back
    pub between : List Bool
    pub chains : List HeldChain
    pub whole : AllRead file count before front between chains
    pub beyond : List Bool
    pub broken : IsBroken file count between head.0 (Some head.1) beyond damage

  broken_here : (before : List Bool) (head : ℕ × ℕ) (heads : List (ℕ × ℕ)) (chain : FoundChain) (damage : Damage) → chain.stated ≡ Some head.1 → Walk file count before head.0 chain.pages chain.end → damage_in file chain ≡ Some damage
      → FirstBroken before (head ∷ heads)
  broken_here before head heads chain damage stated walk told =
      record {
        damage = damage;
        front = [];
        head = head;
        back = heads;
        in_order = refl;
        between = before;
        chains = [];
        whole = (refl, refl);
        beyond = all_marked before chain.pages;
        broken = record {
          pages = chain.pages;
          end = chain.end;
          walk = walk;
          broken = subst (λ (said : Option ℕ). damage_of file chain.pages chain.end said ≡ Some damage) stated told;
          marks = refl;
        };
      }

  broken_there : (before : List Bool) (head : ℕ × ℕ) (heads : List (ℕ × ℕ)) (pages text : List ℕ) → IsWhole file count before head.0 (Some head.1) (all_marked before pages) pages text → FirstBroken (all_marked before pages) heads → FirstBroken before (head ∷ heads)
  broken_there before head heads pages text whole rest =
      record {
        damage = rest.damage;
        front = head ∷ rest.front;
        head = rest.head;
        back = rest.back;
        in_order = ap (λ (hs : List (ℕ × ℕ)). head ∷ hs) rest.in_order;
        between = rest.between;
        chains = record { pages = pages; text = text } ∷ rest.chains;
        whole = (record { pages = pages; text = text }, rest.chains, all_marked before pages, refl, whole, rest.whole);
        beyond = rest.beyond;
        broken = rest.broken;
      }

  pub first_broken : (before : List Bool) (heads : List (ℕ × ℕ)) (after : List Bool) (found : List FoundChain) (n : ℕ) → AllFollowed file count before heads after found → HasOne (λ chain. IsAtMost (damage_in file chain) n) found → FirstBroken before heads
  first_broken before [] after found n followed one = absurd (subst (λ (fs : List FoundChain). HasOne (λ chain. IsAtMost (damage_in file chain) n) fs) followed.1 one)
  first_broken before (head ∷ heads) after found n followed one =
      first_of_two (damage_in file followed.0) refl (subst (λ (fs : List FoundChain). HasOne (λ chain. IsAtMost (damage_in file chain) n) fs) followed.2 one)
      (λ there. first_broken (all_marked before followed.0.pages) heads after followed.1 n followed.5 there)
    where
      first_of_two : (told : Option Damage) → damage_in file followed.0 ≡ told → HasOne (λ chain. IsAtMost (damage_in file chain) n) (followed.0 ∷ followed.1)
          → (HasOne (λ chain. IsAtMost (damage_in file chain) n) followed.1 → FirstBroken (all_marked before followed.0.pages) heads) → FirstBroken before (head ∷ heads)
      first_of_two (Some damage) told one_of rest = broken_here before head heads followed.0 damage followed.3 followed.4 told
      first_of_two None told (inl here) rest = absurd (subst (λ (t : Option Damage). IsAtMost t n) told here)
      first_of_two None told (inr there) rest =
          let whole = found_there before head followed.0 followed.3 followed.4 told in
          broken_there before head heads followed.0.pages whole.0 whole.1 (rest there)
