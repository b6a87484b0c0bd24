-- A train that runs a route reaches all of it.
use Rattle.std.proofs.Common.{ℕ, List, [], ◌∷◌, sym, subst, inl, inr}
use Rattle.std.specs.List.{AllByRecursion, Contains}
use Rattle.rr_routes.specs.declared.net.Node.{Node}
use Rattle.rr_routes.specs.Net.{Net, Joins, HasToken, IsTerminal}
use Rattle.rr_routes.specs.Routes.{Passes, Walk, one_link, goes_on, NoTerminalInside, last}
use Rattle.rr_routes.specs.Reach.{WalkTo, NodeReached, LinkReached}
use Rattle.rr_routes.proofs.Elements.{Contains-here, Contains-cases, Contains-nil, Contains-single}
use Rattle.rr_routes.proofs.Walks.{Joins-back, Passes-back}

-- the second of three nodes or more is inside
second_inside : (net : Net) (from to : Node) (nodes : List Node) → NoTerminalInside net (from ∷ to ∷ nodes) → (node : Node) → Contains nodes node
    → IsTerminal net to → ⊥
second_inside net from to [] inside node c = absurd (Contains-nil node c)
second_inside net from to (next ∷ nodes) inside node c = inside.0

-- the nodes inside the rest are inside
rest_inside : (net : Net) (from to : Node) (nodes : List Node) → NoTerminalInside net (from ∷ to ∷ nodes) → NoTerminalInside net (to ∷ nodes)
rest_inside net from to [] inside = tt
rest_inside net from to (next ∷ nodes) inside = inside.1

-- a node in front
front_inside : (net : Net) (from to : Node) (nodes : List Node) → (IsTerminal net to → ⊥) → NoTerminalInside net (to ∷ nodes) → NoTerminalInside net (from ∷ to ∷ nodes)
front_inside net from to [] goes inside = tt
front_inside net from to (next ∷ nodes) goes inside = (goes, inside)

-- a node behind the second of a walk's first two
third_of_walk : (net : Net) (link : ℕ) (links : List ℕ) (from : Node) (nodes : List Node) → Walk net (link ∷ links) (from ∷ nodes) → (node : Node) × Contains nodes node
third_of_walk net link _ from _ (one_link _ _ to joins) = (to, Contains-here to [])
third_of_walk net link _ from _ (goes_on _ _ _ _ to nodes joins passes rest) = (to, Contains-here to nodes)

module _ (net : Net) (MayUse : ℕ → Type 0) where
  -- a walk begins at a token
  pub begins : (link : ℕ) (from to : Node) → HasToken net from → MayUse link → Joins net link from to → WalkTo net MayUse link to
  begins link from to token may joins =
      record {
        links = [];
        nodes = from ∷ [];
        walk = one_link link to from (Joins-back net link from to joins);
        no_terminal = tt;
        free = (may, tt);
        token = token;
      }

  -- a walk goes on
  pub continues : (link : ℕ) (at : Node) (next : ℕ) (to : Node) → WalkTo net MayUse link at → (IsTerminal net at → ⊥) → Passes net link at next
      → MayUse next → Joins net next at to → WalkTo net MayUse next to
  continues link at next to so_far goes passes may joins =
      record {
        links = link ∷ so_far.links;
        nodes = at ∷ so_far.nodes;
        walk = goes_on next link so_far.links to at so_far.nodes (Joins-back net next at to joins) (Passes-back net link at next passes) so_far.walk;
        no_terminal = front_inside net to at so_far.nodes goes so_far.no_terminal;
        free = (may, so_far.free);
        token = so_far.token;
      }

  -- each of these links and nodes is reached
  pub record AllReached (links : List ℕ) (nodes : List Node) : Type 0 where
    pub each_link : (link : ℕ) → Contains links link → LinkReached net MayUse link
    pub each_node : (node : Node) → Contains nodes node → NodeReached net MayUse node

  none_reached : AllReached [] []
  none_reached =
      record {
        each_link = λ link c. absurd (Contains-nil link c);
        each_node = λ node c. absurd (Contains-nil node c);
      }

  -- a node more
  node_reached : (node : Node) (links : List ℕ) (nodes : List Node) → NodeReached net MayUse node → AllReached links nodes → AllReached links (node ∷ nodes)
  node_reached node links nodes here rest =
      record {
        each_link = rest.each_link;
        each_node = λ other c. elim (Contains-cases node nodes other c) [
          | inl is ↦ subst (λ n. NodeReached net MayUse n) is here
          | inr later ↦ rest.each_node other later
        ];
      }

  -- a link more, and the node at which a walk ends with it
  link_reached : (link : ℕ) (node : Node) (links : List ℕ) (nodes : List Node) → WalkTo net MayUse link node → AllReached links nodes → AllReached (link ∷ links) (node ∷ nodes)
  link_reached link node links nodes walk rest =
      let more = node_reached node links nodes (inr (link, walk)) rest in
      record {
        each_link = λ other c. elim (Contains-cases link links other c) [
          | inl is ↦ subst (λ l. LinkReached net MayUse l) is (node, walk)
          | inr later ↦ rest.each_link other later
        ];
        each_node = more.each_node;
      }

  -- to the end of a walk, from where its first link is reached
  ahead : (first : ℕ) (links : List ℕ) (from : Node) (nodes : List Node) → Walk net (first ∷ links) (from ∷ nodes) → NoTerminalInside net (from ∷ nodes)
      → AllByRecursion MayUse (first ∷ links) → ((to : Node) → Joins net first from to → WalkTo net MayUse first to) → AllReached (first ∷ links) nodes
  ahead first _ from _ (one_link _ _ to joins) inside free arrives = link_reached first to [] [] (arrives to joins) none_reached
  ahead first _ from _ (goes_on _ next links _ to nodes joins passes rest) inside free arrives =
      let third = third_of_walk net next links to nodes rest in
      link_reached first to (next ∷ links) nodes (arrives to joins)
      (ahead next links to nodes rest (rest_inside net from to nodes inside) free.1
      (λ later joined. continues first to next later (arrives to joins) (second_inside net from to nodes inside third.0 third.1) passes free.1.0 joined))

  -- back to the beginning of a walk, from a token behind it
  back : (first : ℕ) (links : List ℕ) (from : Node) (nodes : List Node) → Walk net (first ∷ links) (from ∷ nodes) → NoTerminalInside net (from ∷ nodes)
      → AllByRecursion MayUse (first ∷ links) → (token : Node) → Contains nodes token → HasToken net token → WalkTo net MayUse first from
  back first _ from _ (one_link _ _ to joins) inside free token c has =
      begins first to from (subst (λ n. HasToken net n) (sym (Contains-single to token c)) has) free.0 (Joins-back net first from to joins)
  back first _ from _ (goes_on _ next links _ to nodes joins passes rest) inside free token c has =
      elim (Contains-cases to nodes token c) [
        | inl is ↦ begins first to from (subst (λ n. HasToken net n) (sym is) has) free.0 (Joins-back net first from to joins)
        | inr later ↦ continues next to first from (back next links to nodes rest (rest_inside net from to nodes inside) free.1 token later has)
            (second_inside net from to nodes inside token later) (Passes-back net first to next passes) free.0 (Joins-back net first from to joins)
      ]

  -- a walk that begins at a token
  from_token : (first : ℕ) (links : List ℕ) (from : Node) (nodes : List Node) → Walk net (first ∷ links) (from ∷ nodes) → NoTerminalInside net (from ∷ nodes)
      → AllByRecursion MayUse (first ∷ links) → HasToken net from → AllReached (first ∷ links) (from ∷ nodes)
  from_token first links from nodes walk inside free has =
      node_reached from (first ∷ links) nodes (inl has) (ahead first links from nodes walk inside free (λ to joined. begins first from to has free.0 joined))

  -- all of a walk with a token on it
  pub walk_reached : {links : List ℕ} {nodes : List Node} → Walk net links nodes → NoTerminalInside net nodes → AllByRecursion MayUse links
      → (token : Node) → Contains nodes token → HasToken net token → AllReached links nodes
  walk_reached (one_link link from to joins) inside free token c has =
      elim (Contains-cases from (to ∷ []) token c) [
        | inl is ↦ from_token link [] from (to ∷ []) (one_link link from to joins) inside free (subst (λ n. HasToken net n) (sym is) has)
        | inr later ↦ link_reached link from [] (to ∷ []) (back link [] from (to ∷ []) (one_link link from to joins) inside free token later has)
            (node_reached to [] [] (inl (subst (λ n. HasToken net n) (sym (Contains-single to token later)) has)) none_reached)
      ]
  walk_reached (goes_on first next links from to nodes joins passes rest) inside free token c has =
      elim (Contains-cases from (to ∷ nodes) token c) [
        | inl is ↦ from_token first (next ∷ links) from (to ∷ nodes) (goes_on first next links from to nodes joins passes rest) inside free (subst (λ n. HasToken net n) (sym is) has)
        | inr later ↦ link_reached first from (next ∷ links) (to ∷ nodes)
            (back first (next ∷ links) from (to ∷ nodes) (goes_on first next links from to nodes joins passes rest) inside free token later has)
            (walk_reached rest (rest_inside net from to nodes inside) free.1 token later has)
      ]

-- What holds of the first link of each walk and its end, and goes on from link to link, holds of every link and node
-- that a walk ends with.
module _ (net : Net) (MayUse : ℕ → Type 0) (P : ℕ → Node → Type 0)
    (at_first : (link : ℕ) (from to : Node) → HasToken net from → MayUse link → Joins net link from to → P link to)
    (at_next : (link : ℕ) (at : Node) (next : ℕ) (to : Node) → P link at → (IsTerminal net at → ⊥) → Passes net link at next → MayUse next
    → Joins net next at to → P next to) where
  holds_at_end : (first : ℕ) (links : List ℕ) (from : Node) (nodes : List Node) → Walk net (first ∷ links) (from ∷ nodes) → NoTerminalInside net (from ∷ nodes)
      → AllByRecursion MayUse (first ∷ links) → HasToken net (last from nodes) → P first from
  holds_at_end first _ from _ (one_link _ _ to joins) inside free token = at_first first to from token free.0 (Joins-back net first from to joins)
  holds_at_end first _ from _ (goes_on _ next links _ to nodes joins passes rest) inside free token =
      let third = third_of_walk net next links to nodes rest in
      at_next next to first from (holds_at_end next links to nodes rest (rest_inside net from to nodes inside) free.1 token)
      (second_inside net from to nodes inside third.0 third.1) (Passes-back net first to next passes) free.0 (Joins-back net first from to joins)

  pub WalkTo-holds : (link : ℕ) (node : Node) → WalkTo net MayUse link node → P link node
  WalkTo-holds link node walk = holds_at_end link walk.links node walk.nodes walk.walk walk.no_terminal walk.free walk.token
