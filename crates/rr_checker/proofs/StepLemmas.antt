-- The tests on steps, and the steps over links.
use Rattle.std.proofs.Common.{◌≡◌, ℕ, ◌+◌, ◌<◌, ◌⊎◌, ◌↔◌, ◌==◌, not, Bool, true, false, List, [], ◌∷◌, ◌++◌, length, get_or, refl, sym, ◌∙◌, ap, subst, inl, inr, arith}
use Rattle.std.specs.Bool.{Decides}
use Rattle.std.specs.List.{Contains, list_any}
use Rattle.std.proofs.lemmas.Bool.{false≢true, cases_eq}
use Rattle.std.proofs.lemmas.Bool.Decides.{Decides-eqb, Decides-like, Decides-not, Decides-and}
use Rattle.std.proofs.lemmas.List.Elements.{Contains-push, Contains-push_cases, Contains-append_left}
use Rattle.std.proofs.lemmas.List.Folds.{Any-from_list_any, list_any-from_Any}
use Rattle.std.proofs.lemmas.Option.{slice_get_read, slice_get_within}
use Rattle.rr_routes.specs.declared.net.Node.{Node}
use Rattle.rr_routes.specs.declared.net.Node.TheVariants.{Hexside, Centre}
use Rattle.rr_routes.specs.declared.net.Link.{Link}
use Rattle.rr_routes.specs.declared.certificate.Fate.{Fate}
use Rattle.rr_routes.specs.declared.certificate.Fate.TheVariants.{Open, Denied, Of}
use Rattle.rr_routes.specs.Net.{Net, LinkAt, Joins, HasToken, IsTerminal}
use Rattle.rr_routes.specs.Routes.{Passes}
use Rattle.rr_routes.specs.Certificates.{Allows}
use Rattle.rr_routes.proofs.Walks.{LinkAt-same}
use Rattle.rr_checker.specs.declared.step.Step.{Step}
use Rattle.rr_checker.specs.Steps.{same_node, allows, has_token, is_terminal, forward, backward, HasStep, passes_at}

-- the link that stands for one past the end
abbrev pub no_link : Link
no_link = record { hex = 0; side = 0; other = Hexside 0 }

-- what a test that says yes, or no, decides
pub yes : {b : Bool} {P : Type 0} → Decides b P → b ≡ true → P
yes d e = d.0 e

pub no : {b : Bool} {P : Type 0} → Decides b P → b ≡ false → P → ⊥
no d e p = false≢true (sym e ∙ d.1 p)

pub to_true : {P : Type 0} (b : Bool) → Decides b P → P → b ≡ true
to_true b d p = d.1 p

pub to_false : {P : Type 0} (b : Bool) → Decides b P → (P → ⊥) → b ≡ false
to_false true d n = absurd (n (d.0 refl))
to_false false d n = refl

pub Decides-never : {P : Type 0} → (P → ⊥) → Decides false P
Decides-never n = (λ e. absurd (false≢true e), λ p. absurd (n p))

pub Decides-always : {P : Type 0} → P → Decides true P
Decides-always p = (λ e. p, λ q. refl)

pub Decides-same_node : (node other : Node) → Decides (same_node node other) (node ≡ other)
Decides-same_node (Hexside side) (Hexside other) = Decides-like (side == other) (λ e. ap Hexside e) (λ e. cc) (Decides-eqb side other)
Decides-same_node (Hexside side) (Centre other) = Decides-never (λ e. cc)
Decides-same_node (Centre centre) (Hexside other) = Decides-never (λ e. cc)
Decides-same_node (Centre centre) (Centre other) = Decides-like (centre == other) (λ e. ap Centre e) (λ e. cc) (Decides-eqb centre other)

pub Decides-allows : (fate : Fate) (train : ℕ) → Decides (allows fate train) (Allows fate train)
Decides-allows Open train = Decides-always tt
Decides-allows Denied train = Decides-never (λ n. n)
Decides-allows (Of owner) train = Decides-eqb owner train

-- whether some element of the list has a property
pub Decides-list_any : {X : Type 0} (test : X → Bool) (P : X → Type 0) (xs : List X) → ((x : X) → Contains xs x → Decides (test x) (P x))
    → Decides (list_any test xs) ((x : X) × Contains xs x × P x)
Decides-list_any test P xs each = (
  λ e.
      let any = Any-from_list_any test xs e in
      let c : Contains xs any.1 = (any.0, any.2, any.3) in
      (any.1, c, yes (each any.1 c) any.4),
  λ found. list_any-from_Any test xs (found.1.0, found.0, found.1.1, found.1.2, to_true (test found.0) (each found.0 found.1) found.2),
)

pub Decides-among : (xs : List ℕ) (x : ℕ) → Decides (list_any (λ y. y == x) xs) (Contains xs x)
Decides-among xs x =
    Decides-like (list_any (λ y. y == x) xs) (λ found. subst (λ y. Contains xs y) found.2 found.1) (λ c. (x, c, refl))
    (Decides-list_any (λ y. y == x) (λ y. y ≡ x) xs (λ y c. Decides-eqb y x))

pub Decides-has_token : (net : Net) (node : Node) → Decides (has_token net node) (HasToken net node)
Decides-has_token net (Hexside side) = Decides-never (λ n. n)
Decides-has_token net (Centre centre) = Decides-among net.tokens centre

pub Decides-is_terminal : (net : Net) (node : Node) → Decides (is_terminal net node) (IsTerminal net node)
Decides-is_terminal net (Hexside side) = Decides-never (λ n. n)
Decides-is_terminal net (Centre centre) = Decides-among net.terminals centre

module _ (net : Net) where
  -- a step's hex is its link's
  pub HasStep-hex : (count : ℕ) (step : Step) (h : HasStep net count step) → step.hex ≡ h.over.0.hex
  HasStep-hex count step h = elim h.over.2 [ inl is ↦ ap (λ (s : Step). s.hex) is | inr is ↦ ap (λ (s : Step). s.hex) is ]

  pub HasStep-Joins : (count : ℕ) (step : Step) → HasStep net count step → Joins net step.link step.from step.to
  HasStep-Joins count step h = (
    h.over.0,
    h.over.1,
    elim h.over.2 [
      | inl is ↦ inl (ap (λ (s : Step). s.from) is, ap (λ (s : Step). s.to) is)
      | inr is ↦ inr (ap (λ (s : Step). s.from) is, ap (λ (s : Step). s.to) is)
    ],
  )

  -- the step over a link from one of its ends to the other
  pub record StepOver (link : ℕ) (from to : Node) : Type 0 where
    pub step : Step
    pub has : HasStep net (length net.links) step
    pub link_is : step.link ≡ link
    pub from_is : step.from ≡ from
    pub to_is : step.to ≡ to

  pub step_over : (link : ℕ) (from to : Node) → Joins net link from to → StepOver link from to
  step_over link from to joins =
      let inside : link < length net.links = slice_get_within net.links link joins.0 joins.1 in
      elim joins.2 [
        | inl ends ↦ record {
          step = forward link joins.0;
          has = record { inside = inside; over = (joins.0, joins.1, inl refl) };
          link_is = refl;
          from_is = sym ends.0;
          to_is = sym ends.1;
        }
        | inr ends ↦ record {
          step = backward link joins.0;
          has = record { inside = inside; over = (joins.0, joins.1, inr refl) };
          link_is = refl;
          from_is = sym ends.0;
          to_is = sym ends.1;
        }
      ]

  -- the test whether a walk passes a node tells the truth
  pub Decides-passes : (count : ℕ) (step next : Step) → HasStep net count step → HasStep net count next → (node : Node)
      → Decides (passes_at node step next) (Passes net step.link node next.link)
  Decides-passes count step next h k (Centre centre) = Decides-not (step.link == next.link) (Decides-eqb step.link next.link)
  Decides-passes count step next h k (Hexside side) =
      Decides-and (not (step.link == next.link)) (not (step.hex == next.hex)) (Decides-not (step.link == next.link) (Decides-eqb step.link next.link))
      (Decides-like (not (step.hex == next.hex))
      (λ differ first second one two same. differ (
      HasStep-hex count step h ∙ ap (λ (l : Link). l.hex) (LinkAt-same net step.link h.over.0 first h.over.1 one) ∙ same
      ∙ ap (λ (l : Link). l.hex) (LinkAt-same net next.link second k.over.0 two k.over.1) ∙ sym (HasStep-hex count next k)
      ))
      (λ apart same. apart h.over.0 k.over.0 h.over.1 k.over.1 (sym (HasStep-hex count step h) ∙ same ∙ HasStep-hex count next k))
      (Decides-not (step.hex == next.hex) (Decides-eqb step.hex next.hex)))

  -- both steps over each of the first so many links
  abbrev pub AreSteps : ℕ → List Step → Type 0
  AreSteps count steps = (step : Step) → Contains steps step ↔ HasStep net count step

  pub steps_first : AreSteps 0 []
  steps_first step = (λ c. absurd (omega (arith, c.1)), λ h. absurd (omega (arith, h.inside)))

  more : (count : ℕ) (step : Step) → HasStep net count step → HasStep net (count + 1) step
  more count step h = record { inside = omega (arith, h.inside); over = h.over }

  pub steps_next : (count : ℕ) (steps one two : List Step) (link : Link) → AreSteps count steps
      → count < length net.links → link ≡ get_or net.links count link → one ≡ steps ++ forward count link ∷ [] → two ≡ one ++ backward count link ∷ [] → AreSteps (count + 1) two
  steps_next count steps one two link all inside here first second = rw (second, first) both
    where
      there : LinkAt net count link
      there = slice_get_read net.links (length net.links) count link refl inside here

      new : (step : Step) → (forward count link ≡ step) ⊎ (backward count link ≡ step) → HasStep net (count + 1) step
      new step (inl is) = subst (λ s. HasStep net (count + 1) s) is (record { inside = omega arith; over = (link, there, inl refl) })
      new step (inr is) = subst (λ s. HasStep net (count + 1) s) is (record { inside = omega arith; over = (link, there, inr refl) })

      pushed : List Step
      pushed = steps ++ forward count link ∷ []

      here_now : (step : Step) (k : ℕ) (l : Link) → k ≡ count → LinkAt net k l → (step ≡ forward k l) ⊎ (step ≡ backward k l) → Contains (pushed ++ backward count link ∷ []) step
      here_now step k l same at (inl is) =
          let e : forward count link ≡ step = sym (is ∙ ap (λ j. forward j l) same ∙ ap (forward count) (LinkAt-same net count l link (subst (λ j. LinkAt net j l) same at) there)) in
          subst (λ s. Contains (pushed ++ backward count link ∷ []) s) e (Contains-append_left pushed (backward count link ∷ []) (forward count link) (Contains-push steps (forward count link)))
      here_now step k l same at (inr is) =
          let e : backward count link ≡ step = sym (is ∙ ap (λ j. backward j l) same ∙ ap (backward count) (LinkAt-same net count l link (subst (λ j. LinkAt net j l) same at) there)) in
          subst (λ s. Contains (pushed ++ backward count link ∷ []) s) e (Contains-push pushed (backward count link))

      both : AreSteps (count + 1) (pushed ++ backward count link ∷ [])
      both step = (
        λ c. elim (Contains-push_cases pushed (backward count link) step c) [
          | inl c2 ↦ elim (Contains-push_cases steps (forward count link) step c2) [
            | inl old ↦ more count step ((all step).0 old)
            | inr is ↦ new step (inl is)
          ]
          | inr is ↦ new step (inr is)
        ],
        λ h. elim (cases_eq step.link count) [
          | inl same ↦ here_now step step.link h.over.0 same h.over.1 h.over.2
          | inr differ ↦ Contains-append_left pushed (backward count link ∷ []) step (Contains-append_left steps (forward count link ∷ []) step
              ((all step).1 (record { inside = omega (arith, h.inside, differ); over = h.over })))
        ],
      )

  pub steps_done : (count : ℕ) (steps : List Step) → AreSteps count steps → count ≡ length net.links → AreSteps (length net.links) steps
  steps_done count steps all e = subst (λ n. AreSteps n steps) e all
