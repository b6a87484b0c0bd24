-- What the entries of a directory and their chains tell, table by table.
use Rattle.std.proofs.Common.{◌≡◌, ◌↔◌, ℕ, zero, suc, ◌+◌, ◌<◌, ◌≤◌, List, [], ◌∷◌, ◌++◌, length, drop, get_or, sym, subst, arith}
use Rattle.std.proofs.lemmas.List.{drop_more, drop_all}
use Rattle.rr_pages.specs.declared.reading.FollowedChain.{FollowedChain}
use Rattle.rr_reading.specs.declared.dir.directory.TableEntry.{TableEntry}
use Rattle.rr_reading.specs.Chains.{all_held_in}
use Rattle.rr_reading.specs.Lending.Fitting.{links_at}
use Rattle.rr_reading.specs.Lending.Pages.{joined}
use Rattle.rr_reading.proofs.FormLemmas.{drop_held, held_at}
use Rattle.rr_images.specs.Holding.{HeldChain}
use Rattle.rr_kit.specs.declared.kit.Kit.{Kit}
use Rattle.rr_tables.specs.Records.Played.{ArePlayedTables, IsPlayedTable}
use Rattle.rr_tables.specs.Records.World.{TableState, World}
use Rattle.rr_store.specs.Recovery.Told.{EachHas, TellTables, TellsTable}

-- that those from one place on have it decides that all have it
abbrev pub LeftDecide : (TableEntry → List ℕ → Type 0) → List TableEntry → List HeldChain → ℕ → Type 0
LeftDecide P entries chains n = EachHas P (drop n entries) (drop n chains) ↔ EachHas P entries chains

module _ (P : TableEntry → List ℕ → Type 0) (file : List ℕ) (entries : List TableEntry) (all : List FollowedChain) (n : ℕ) (entry : TableEntry) (entry_in : n < length entries) (chain_in : n < length all) (entry_is : entry ≡ get_or entries n entry) where
  entries_are : drop n entries ≡ entry ∷ drop (n + 1) entries
  entries_are = subst (λ (e : TableEntry). drop n entries ≡ e ∷ drop (n + 1) entries) (sym entry_is) (drop_more entries n entry entry_in)

  parted : EachHas P (drop n entries) (drop n (all_held_in file all)) ≡ EachHas P (entry ∷ drop (n + 1) entries) (held_at file all n ∷ drop (n + 1) (all_held_in file all))
  parted = λ i. EachHas P (entries_are i) (drop_held file all n chain_in i)

  pub left_more : LeftDecide P entries (all_held_in file all) n → P entry (joined file (links_at all n)) → LeftDecide P entries (all_held_in file all) (n + 1)
  left_more decide here = (
    λ rest. decide.0 (subst (λ (Q : Type 0). Q) (sym parted) (here, rest)),
    λ whole. (subst (λ (Q : Type 0). Q) parted (decide.1 whole)).1,
  )

  pub left_none : LeftDecide P entries (all_held_in file all) n → (P entry (joined file (links_at all n)) → ⊥) → EachHas P entries (all_held_in file all) → ⊥
  left_none decide none whole = none (subst (λ (Q : Type 0). Q) parted (decide.1 whole)).0

pub all_decided : (P : TableEntry → List ℕ → Type 0) (entries : List TableEntry) (chains : List HeldChain) (n : ℕ) → length entries ≤ n → LeftDecide P entries chains n → EachHas P entries chains
all_decided P entries chains n past decide = decide.0 (subst (λ (es : List TableEntry). EachHas P es (drop n chains)) (sym (drop_all n entries past)) tt)

-- all have it only if each has it
pub each_at : (P : TableEntry → List ℕ → Type 0) (entries : List TableEntry) (chains : List HeldChain) (n : ℕ) (entry : TableEntry) (chain : HeldChain) → n < length entries → n < length chains
    → entry ≡ get_or entries n entry → chain ≡ get_or chains n chain → EachHas P entries chains → P entry chain.text
each_at P [] chains n entry chain entry_in chain_in entry_is chain_is all = absurd (omega (arith, entry_in))
each_at P (e ∷ es) [] n entry chain entry_in chain_in entry_is chain_is all = absurd all
each_at P (e ∷ es) (c ∷ cs) zero entry chain entry_in chain_in entry_is chain_is all =
    subst (λ (x : TableEntry). P x chain.text) (sym entry_is) (subst (λ (x : HeldChain). P e x.text) (sym chain_is) all.0)
each_at P (e ∷ es) (c ∷ cs) (suc n) entry chain entry_in chain_in entry_is chain_is all =
    each_at P es cs n entry chain (omega (arith, entry_in)) (omega (arith, chain_in)) entry_is chain_is all.1

-- one table more
pub told_more : (entries : List TableEntry) (chains : List HeldChain) (tables : World) (entry : TableEntry) (chain : HeldChain) (table : List ℕ × TableState)
    → TellTables entries chains tables → TellsTable entry chain.text table → TellTables (entries ++ entry ∷ []) (chains ++ chain ∷ []) (tables ++ table ∷ [])
told_more [] [] [] entry chain table told last = (last, tt)
told_more [] [] (t ∷ ts) entry chain table told last = absurd told
told_more [] (c ∷ cs) ts entry chain table told last = absurd told
told_more (e ∷ es) [] ts entry chain table told last = absurd told
told_more (e ∷ es) (c ∷ cs) [] entry chain table told last = absurd told
told_more (e ∷ es) (c ∷ cs) (t ∷ ts) entry chain table told last = (told.0, told_more es cs ts entry chain table told.1 last)

pub played_more : (kit : Kit) (tables : World) (table : List ℕ × TableState) → ArePlayedTables kit tables → IsPlayedTable kit table.1 → ArePlayedTables kit (tables ++ table ∷ [])
played_more kit [] table played last = (last, tt)
played_more kit (t ∷ ts) table played last = (played.0, played_more kit ts table played.1 last)
