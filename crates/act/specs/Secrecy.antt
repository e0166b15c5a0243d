-- Demand 3, of any protocol: one claim about whole jobs. Proof: proofs/Secrecy.antt, of every protocol that performs lawful acts.
use Rattle.std.specs.Prelude.{ℕ, List, ◌↔◌, ◌≡◌}
use Rattle.gate.specs.Places.{Place, next}
use Rattle.view.specs.Views.{around, lacked_by}
use Rattle.machine.specs.Checks.{Tapes}
use Rattle.act.specs.Jobs.{Alike, Fair, IsRun, Job, Protocol, Words, opens, views}

-- what party U does not see of the tapes: the dealer's tape and the mask tape that it lacks
pub record Hidden : Type 0 where
  pub dealer : List ℕ
  pub lacked : List ℕ

-- the four tapes, with U's own two
abbrev pub tapes_with : Place → List ℕ → List ℕ → Hidden → Tapes
tapes_with U own far h = record { masks = around U own far h.lacked; dealer = h.dealer }

-- hidden tapes of the job's lengths, of 64-bit words
pub record Hides {ℓ} {P : Protocol {ℓ}} (J : Job P) (U : Place) (h : Hidden) : Type 0 where
  pub dealer : Words J.dealer_length h.dealer
  pub lacked : Words (J.masks_length (lacked_by U)) h.lacked

-- one fair run of each job, that open the same
pub record Meet {ℓ} {P : Protocol {ℓ}} (J K : Job P) (T T' : Tapes) : Type ℓ where
  pub run_j : IsRun J T
  pub run_k : IsRun K T'
  pub fair_j : Fair J T
  pub fair_k : Fair K T'
  pub opened : opens J T ≡ opens K T'

-- "The change may depend on both jobs and on U's two strands, which it leaves alone. It keeps all lengths; each fair run of J goes
-- to a fair run of K, and each of those comes from exactly one. In a run and its image these are equal after every order: .."
pub record Change {ℓ} {P : Protocol {ℓ}} (J K : Job P) (U : Place) (own far : List ℕ) : Type ℓ where
  pub to : Hidden → Hidden
  pub from : Hidden → Hidden
  pub to_hides : (h : Hidden) → Hides J U h → Hides K U (to h)
  pub from_hides : (h : Hidden) → Hides K U h → Hides J U (from h)
  pub from_to : (h : Hidden) → Hides J U h → from (to h) ≡ h
  pub to_from : (h : Hidden) → Hides K U h → to (from h) ≡ h
  pub fair : (T T' : Tapes) → Meet J K T T' → (h : Hidden) → Hides J U h
      → Fair J (tapes_with U own far h) ↔ Fair K (tapes_with U own far (to h))
  pub alike : (T T' : Tapes) → Meet J K T T' → (h : Hidden) → Hides J U h → Fair J (tapes_with U own far h)
      → views U J (tapes_with U own far h) ≡ views U K (tapes_with U own far (to h))

-- two jobs that differ in the numbers dealt alone, which open the same in one fair run of each, look the same to any single party
abbrev pub Secrecy {ℓ} : Protocol {ℓ} → Type ℓ
Secrecy P = (J K : Job P) → Alike J K
    → (U : Place) (own far : List ℕ) → Words (J.masks_length U) own → Words (J.masks_length (next U)) far
    → Change J K U own far
