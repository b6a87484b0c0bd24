-- Chains that are followed one after another.
use Rattle.std.proofs.Common.{◌≡◌, ℕ, ◌+◌, ◌<◌, ◌≤◌, Bool, true, List, [], ◌∷◌, ◌++◌, length, map, fold, take, get_or, Option, None, Some, Ok, Err, refl, sym, ap, ◌∙◌, subst, arith, length-append, append-nil}
use Rattle.std.proofs.lemmas.Bool.{and_from, and_parts}
use Rattle.std.proofs.lemmas.List.{map-append, take_more, take_all, length-map}
use Rattle.std.proofs.lemmas.List.Sums.{fold-append}
use Rattle.rr_reading.specs.declared.dir.directory.ChainRef.{ChainRef}
use Rattle.rr_reading.specs.Dir.Heads.{head_of}
use Rattle.rr_images.specs.Following.{AllRead}
use Rattle.rr_images.specs.Holding.{HeldChain}
use Rattle.rr_pages.specs.declared.fault.Damage.{Damage}
use Rattle.rr_pages.specs.declared.reading.FollowedChain.{FollowedChain}
use Rattle.rr_pages.specs.Links.{all_fit, pages_of}
use Rattle.rr_pages.specs.Reading.{Follows}
use Rattle.rr_pages.specs.Sets.{all_marked}
use Rattle.rr_pages.specs.Walk.{Walk}
use Rattle.rr_pages.proofs.Walks.{walk_only}
use Rattle.rr_reading.specs.declared.chains.Followed.{Followed}
use Rattle.rr_reading.specs.declared.chains.Followed.TheVariants.{Whole, Broken}
use Rattle.rr_reading.specs.declared.fault.Fault.{Fault}
use Rattle.rr_reading.specs.declared.fault.Fault.TheVariants as F
use Rattle.rr_reading.specs.Chains.{held_in, all_held_in, FoundChain, AllFollowed, damage_in, lower_of, least_in, IsFit, IsFollowed, damage_told, whole_of, AreRead}
use Rattle.rr_reading.specs.Lending.Fitting.{each_fits}
use Rattle.rr_reading.specs.Told.{told_least, IsToldBroken}
use Rattle.rr_reading.proofs.Least.{AllRight, walk_right}
use Rattle.rr_reading.proofs.LendingLemmas.LinkLemmas.{whole_joined}

module _ (file : List ℕ) (count : ℕ) where
  -- one chain that was followed, and the least clause that it breaks
  pub record OneFollowed (before : List Bool) (head : ℕ × ℕ) (after : List Bool) (told : Option Damage) : Type 0 where
    pub chain : FoundChain
    pub stated : chain.stated ≡ Some head.1
    pub walk : Walk file count before head.0 chain.pages chain.end
    pub marks : after ≡ all_marked before chain.pages
    pub damage : damage_in file chain ≡ told

  followed_one : (before : List Bool) (head : ℕ × ℕ) (after : List Bool) (followed : Followed) → IsFollowed file count before head after followed → OneFollowed before head after (damage_told followed)
  followed_one before head after (Whole read) is =
      record { chain = record { pages = pages_of read.links.items; end = None; stated = Some head.1 }; stated = refl; walk = is.walk; marks = is.marks; damage = is.unbroken }
  followed_one before head after (Broken damage) is =
      record { chain = record { pages = is.pages; end = is.end; stated = Some head.1 }; stated = refl; walk = is.walk; marks = is.marks; damage = is.broken }

  -- one more behind others
  followed_more : (before between after : List Bool) (heads : List (ℕ × ℕ)) (head : ℕ × ℕ) (told : Option Damage) (found : List FoundChain) → AllFollowed file count before heads between found → (one : OneFollowed between head after told)
      → AllFollowed file count before (heads ++ head ∷ []) after (found ++ one.chain ∷ [])
  followed_more before between after [] head told found first one = (
    one.chain,
    [],
    ap (λ (fs : List FoundChain). fs ++ one.chain ∷ []) first.1,
    one.stated,
    subst (λ (marks : List Bool). Walk file count marks head.0 one.chain.pages one.chain.end) first.0 one.walk,
    (one.marks ∙ ap (λ (marks : List Bool). all_marked marks one.chain.pages) first.0, refl),
  )
  followed_more before between after (next ∷ heads) head told found first one = (
    first.0,
    first.1 ++ one.chain ∷ [],
    ap (λ (fs : List FoundChain). fs ++ one.chain ∷ []) first.2,
    first.3,
    first.4,
    followed_more (all_marked before first.0.pages) between after heads head told first.1 first.5 one,
  )

  pub read_on : (before between after : List Bool) (front back : List (ℕ × ℕ)) (chains more : List HeldChain) → AllRead file count before front between chains → AllRead file count between back after more → AllRead file count before (front ++ back) after (chains ++ more)
  read_on before between after [] back chains more first then =
      subst (λ (cs : List HeldChain). AllRead file count before back after (cs ++ more)) (sym first.1) (subst (λ (marks : List Bool). AllRead file count marks back after more) first.0 then)
  read_on before between after (head ∷ front) back chains more first then = (
    first.0,
    first.1 ++ more,
    first.2,
    ap (λ (cs : List HeldChain). cs ++ more) first.3,
    first.4,
    read_on first.2 between after front back first.1 more first.5 then,
  )

  whole_more : (before between after : List Bool) (heads : List (ℕ × ℕ)) (head : ℕ × ℕ) (least : Option Damage) (chains : List HeldChain) (followed : Followed) → (least ≡ None → AllRead file count before heads between chains)
      → IsFollowed file count between head after followed → lower_of least (damage_told followed) ≡ None → AllRead file count before (heads ++ head ∷ []) after (chains ++ all_held_in file (whole_of followed))
  whole_more before between after heads head None chains (Whole read) whole is none =
      read_on before between after heads (head ∷ []) chains (held_in file read ∷ []) (whole refl) (held_in file read, [], after, refl, is, (refl, refl))
  whole_more before between after heads head None chains (Broken damage) whole is none = absurd (cc)
  whole_more before between after heads head (Some least) chains (Whole read) whole is none = absurd (cc)
  whole_more before between after heads head (Some least) chains (Broken damage) whole is none = absurd (cc)

  pub are_read_none : (before : List Bool) → AreRead file count before [] before None []
  are_read_none before = record { found = []; followed = (refl, refl); is_least = refl; whole = λ none. (refl, refl) }

  are_read_more : (before between after : List Bool) (heads : List (ℕ × ℕ)) (head : ℕ × ℕ) (least : Option Damage) (chains : List HeldChain) (followed : Followed) → AreRead file count before heads between least chains
      → IsFollowed file count between head after followed → AreRead file count before (heads ++ head ∷ []) after (lower_of least (damage_told followed)) (chains ++ all_held_in file (whole_of followed))
  are_read_more before between after heads head least chains followed read is =
      let one = followed_one between head after followed is in
      record {
        found = read.found ++ one.chain ∷ [];
        followed = followed_more before between after heads head (damage_told followed) read.found read.followed one;
        is_least = (λ i. lower_of (read.is_least i) (sym one.damage i)) ∙ sym (fold-append (λ (told : Option Damage) (chain : FoundChain). lower_of told (damage_in file chain)) None read.found (one.chain ∷ []));
        whole = whole_more before between after heads head least chains followed read.whole is;
      }

  -- chains that are whole were followed, and none of them breaks a clause
  pub record FollowedWhole (before : List Bool) (heads : List (ℕ × ℕ)) (after : List Bool) : Type 0 where
    pub found : List FoundChain
    pub followed : AllFollowed file count before heads after found
    pub unbroken : least_in file found ≡ None

  pub read_followed : (before : List Bool) (heads : List (ℕ × ℕ)) (after : List Bool) (chains : List HeldChain) → AllRead file count before heads after chains → FollowedWhole before heads after
  read_followed before [] after chains read = record { found = []; followed = (read.0, refl); unbroken = refl }
  read_followed before (head ∷ heads) after chains read =
      let rest = read_followed read.2 heads after read.1 read.5 in
      let chain : FoundChain = record { pages = read.0.pages; end = None; stated = Some head.1 } in
      record {
        found = chain ∷ rest.found;
        followed = (chain, rest.found, refl, refl, read.4.walk, subst (λ (marks : List Bool). AllFollowed file count marks heads after rest.found) read.4.marks rest.followed);
        unbroken = ap (λ (told : Option Damage). fold (λ least other. lower_of least (damage_in file other)) told rest.found) read.4.unbroken ∙ rest.unbroken;
      }

  pub all_right : (before : List Bool) (heads : List (ℕ × ℕ)) (after : List Bool) (found : List FoundChain) → AllFollowed file count before heads after found → AllRight file found
  all_right before [] after found followed = subst (λ (fs : List FoundChain). AllRight file fs) (sym followed.1) tt
  all_right before (head ∷ heads) after found followed =
      subst (λ (fs : List FoundChain). AllRight file fs) (sym followed.2)
      (walk_right file count before head.0 followed.0.pages followed.0.end followed.4, all_right (all_marked before followed.0.pages) heads after followed.1 followed.5)

  -- there is one way to follow them
  pub one_followed : (heads : List (ℕ × ℕ)) (before after others : List Bool) (found more : List FoundChain) → AllFollowed file count before heads after found → AllFollowed file count before heads others more → found ≡ more
  one_followed [] before after others found more a b = a.1 ∙ sym b.1
  one_followed (head ∷ heads) before after others found more a b =
      let only = walk_only file count before head.0 a.0.pages b.0.pages a.0.end b.0.end a.4 b.4 in
      let stated : a.0.stated ≡ b.0.stated = a.3 ∙ sym b.3 in
      let there : AllFollowed file count (all_marked before a.0.pages) heads others b.1 = subst (λ (ps : List ℕ). AllFollowed file count (all_marked before ps) heads others b.1) (sym only.0) b.5 in
      let rest = one_followed heads (all_marked before a.0.pages) after others a.1 b.1 a.5 there in
      let joined : (a.0 ∷ a.1) ≡ (b.0 ∷ b.1) = λ i. record { pages = only.0 i; end = only.1 i; stated = stated i } ∷ rest i in
      a.2 ∙ (joined ∙ sym b.2)

-- a chain that was followed has the bytes of its pages
pub call_followed : (file : List ℕ) (count : ℕ) (before after : List Bool) (head stated : ℕ) (chain : FollowedChain) → Follows file count before head (Some stated) after (Ok chain)
    → IsFollowed file count before (head, stated) after (Whole chain)
call_followed file count before after head stated chain is = whole_joined file count before head (Some stated) after chain.links.items is

-- a chain more, of a disk that has later what it had
pub call_more : (file now : List ℕ) (count : ℕ) (before between after : List Bool) (heads more : List (ℕ × ℕ)) (head : ℕ × ℕ) (least new : Option Damage) (chains grown : List FollowedChain) (followed : Followed) → now ≡ file → more ≡ heads ++ head ∷ []
    → AreRead file count before heads between least (all_held_in file chains) → IsFollowed now count between head after followed → grown ≡ chains ++ whole_of followed → new ≡ lower_of least (damage_told followed)
    → AreRead file count before more after new (all_held_in file grown)
call_more file now count before between after heads more head least new chains grown followed same heads_are read is grown_is new_is =
    let there : IsFollowed file count between head after followed = subst (λ (f : List ℕ). IsFollowed f count between head after followed) same is in
    let all = are_read_more file count before between after heads head least (all_held_in file chains) followed read there in
    subst (λ (hs : List (ℕ × ℕ)). AreRead file count before hs after new (all_held_in file grown)) (sym heads_are)
    (subst (λ (told : Option Damage). AreRead file count before (heads ++ head ∷ []) after told (all_held_in file grown)) (sym new_is)
    (subst (λ (cs : List HeldChain). AreRead file count before (heads ++ head ∷ []) after (lower_of least (damage_told followed)) cs) (sym (ap (all_held_in file) grown_is ∙ map-append (held_in file) chains (whole_of followed))) all))

-- how many were read while none is broken
pub each_more : (least new : Option Damage) (n : ℕ) (chains grown : List FollowedChain) (followed : Followed) → (least ≡ None → length chains ≡ n) → grown ≡ chains ++ whole_of followed → new ≡ lower_of least (damage_told followed) → new ≡ None → length grown ≡ n + 1
each_more None new n chains grown (Whole read) each grown_is new_is none = omega (arith, ap (λ (cs : List FollowedChain). length cs) grown_is, length-append chains (read ∷ []), each refl)
each_more None new n chains grown (Broken damage) each grown_is new_is none = absurd (cc)
each_more (Some least) new n chains grown (Whole read) each grown_is new_is none = absurd (cc)
each_more (Some least) new n chains grown (Broken damage) each grown_is new_is none = absurd (cc)

-- each of them lies within the file
fits_last : (count : ℕ) (chains : List FollowedChain) (chain : FollowedChain) → each_fits count chains ≡ true → all_fit count chain.links.items ≡ true → each_fits count (chains ++ chain ∷ []) ≡ true
fits_last count [] chain fit last = and_from (all_fit count chain.links.items) true last refl
fits_last count (first ∷ chains) chain fit last =
    let parts = and_parts (all_fit count first.links.items) (each_fits count chains) fit in
    and_from (all_fit count first.links.items) (each_fits count (chains ++ chain ∷ [])) parts.0 (fits_last count chains chain parts.1 last)

pub fits_more : (count : ℕ) (chains grown : List FollowedChain) (followed : Followed) → each_fits count chains ≡ true → IsFit count followed → grown ≡ chains ++ whole_of followed → each_fits count grown ≡ true
fits_more count chains grown (Whole chain) fit last is = ap (each_fits count) is ∙ fits_last count chains chain fit last
fits_more count chains grown (Broken damage) fit last is = ap (each_fits count) (is ∙ append-nil chains) ∙ fit

-- what comes of the least clause
pub least_told : {T : Type 0} → (file : List ℕ) (count : ℕ) (before after : List Bool) (heads : List (ℕ × ℕ)) (chains : List HeldChain) (least : Option Damage) (given : T) (fault : Fault) → AreRead file count before heads after least chains
    → told_least least given ≡ Err fault → IsToldBroken file count before heads fault
least_told file count before after heads chains None given fault read is = absurd (cc)
least_told file count before after heads chains (Some least) given fault read is =
    let same : F.Damaged least ≡ fault = cc in
    subst (λ (f : Fault). IsToldBroken file count before heads f) same
    (least, refl, record { after = after; found = read.found; followed = read.followed; is_least = sym read.is_least })

-- the heads of the first chains, and of the next one
pub heads_more : (chains : List ChainRef) (n : ℕ) (default : ChainRef) → n < length chains → map head_of (take (n + 1) chains) ≡ map head_of (take n chains) ++ head_of (get_or chains n default) ∷ []
heads_more chains n default within = ap (λ (cs : List ChainRef). map head_of cs) (take_more chains n default within) ∙ map-append head_of (take n chains) (get_or chains n default ∷ [])

pub all_heads : (file : List ℕ) (count : ℕ) (before after : List Bool) (chains : List ChainRef) (n : ℕ) (least : Option Damage) (read : List HeldChain) → length chains ≤ n → AreRead file count before (map head_of (take n chains)) after least read
    → AreRead file count before (map head_of chains) after least read
all_heads file count before after chains n least read past are = subst (λ (cs : List ChainRef). AreRead file count before (map head_of cs) after least read) (take_all n chains past) are

-- the chains that entries name are added one after another
module _ {X : Type 0} (chain_of : X → ChainRef) (before : List ChainRef) (entries : List X) where
  pub named_all : (chains : List ChainRef) (i : ℕ) → length entries ≤ i → map head_of chains ≡ map head_of before ++ map (λ (x : X). head_of (chain_of x)) (take i entries) → map head_of chains ≡ map head_of before ++ map (λ (x : X). head_of (chain_of x)) entries
  named_all chains i past so_far = so_far ∙ ap (λ (xs : List X). map head_of before ++ map (λ (x : X). head_of (chain_of x)) xs) (take_all i entries past)

  pub named_each : (chains : List ChainRef) → map head_of chains ≡ map head_of before ++ map (λ (x : X). head_of (chain_of x)) entries → length chains ≡ length before + length entries
  named_each chains named =
      let head = λ (x : X). head_of (chain_of x) in
      omega (
        arith,
        ap (λ (hs : List (ℕ × ℕ)). length hs) named,
        length-append (map head_of before) (map head entries),
        length-map chains head_of,
        length-map before head_of,
        length-map entries head,
      )
