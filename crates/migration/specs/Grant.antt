-- Demand 2 on the start token: when it is granted, and what a refusal for a page names.
use Rattle.std.specs.Prelude.{◌≡◌, ◌⊎◌, true, false, List, ℕ, ◌<◌, length, None}
use Rattle.words.specs.Codes as codes
use Rattle.states.specs.States.{Free, Exported, PendingExported}
use Rattle.page.specs.Page.{Page, strange, gives53, gives54}
use Rattle.table.specs.Table.{page_count, page_at, Lowest}
use Rattle.session.specs.Session.{stream_places, work_at}
use Rattle.session.specs.Formed.{formed}
use Rattle.session.specs.declared.Phase.TheVariants.{Blackout}
use Rattle.session.specs.declared.Session.{Session}
use Rattle.migration.specs.Token.{token_says, token_out}

-- free, or exported and clean: not strange, and in state 0, or in 24 or 29 with Dirty clear
pub record Ready (p : Page) : Type 0 where
  pub known : strange p ≡ false
  pub settled : (p.state ≡ Free) ⊎ (((p.state ≡ Exported) ⊎ (p.state ≡ PendingExported)) × (p.dirty ≡ false))

pub record Grantable (s : Session) (t : List ℕ) : Type 0 where
  pub paused : s.phase ≡ Blackout
  pub rest : (i : ℕ) → i < stream_places → work_at s i ≡ None
  pub complete : s.check.complete ≡ true
  pub ready : (i : ℕ) → i < page_count t → Ready (page_at t i)

-- of calls that pass 40: granted exactly when the guest is paused, no stream is interrupted, the check is complete and every page is ready
pub record GrantedExactly : Type 0 where
  pub only : (s : Session) (t : List ℕ) → (token_says (token_out s t).token).code ≡ codes.done → Grantable s t
  pub whenever : (s : Session) (t : List ℕ) → formed s (length t) ≡ true → Grantable s t →
      token_says (token_out s t).token ≡ record { code = codes.done; page = 0 }

-- 53 and 54 each with the lowest such page, and 54 only where no page gives 53
pub record NamesTheLowest : Type 0 where
  pub changed : (s : Session) (t : List ℕ) (p : ℕ) → token_says (token_out s t).token ≡ record { code = codes.exported_dirty_pages_remain; page = p } →
      Lowest gives53 t p
  pub unsent : (s : Session) (t : List ℕ) (p : ℕ) → token_says (token_out s t).token ≡ record { code = codes.unexported_memory_remains; page = p } →
      Lowest gives54 t p
  pub before : (s : Session) (t : List ℕ) (p : ℕ) → token_says (token_out s t).token ≡ record { code = codes.unexported_memory_remains; page = p } → (k : ℕ) →
      k < page_count t → gives53 (page_at t k) ≡ false

-- what these ask can be met
pub record Met : Type 0 where
  pub grantable : (s : Session) × (t : List ℕ) × (formed s (length t) ≡ true) × Grantable s t
  pub changed : (s : Session) × (t : List ℕ) × (p : ℕ) × (token_says (token_out s t).token ≡ record { code = codes.exported_dirty_pages_remain; page = p })
  pub unsent : (s : Session) × (t : List ℕ) × (p : ℕ) × (token_says (token_out s t).token ≡ record { code = codes.unexported_memory_remains; page = p })
