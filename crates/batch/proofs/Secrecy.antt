-- The secrecy of a batch (specs/Secrecy.antt): one proof for every U.
use Prim.Native.Nat.{ℕ, zero, suc, ◌<◌}
use mathlib.Core.List.{List, ◌++◌}
use mathlib.Core.Path.{◌≡◌, ap, refl, sym, ◌∙◌}
use lib.ListN.{drop, length}
use Rattle.gate.specs.Places.{Place, next}
use Rattle.gate.proofs.PlaceLaw.{tabled_is}
use Rattle.circuit.specs.Circuits.{Circuit, gates_of}
use Rattle.circuit.specs.Orders.{decomposition}
use Rattle.view.specs.Views.{around, lacked_by}
use Rattle.view.proofs.AroundLaw.{around_lacked, each_around}
use Rattle.machine.specs.Checks.{first_met}
use Rattle.batch.specs.Batch.{batch, checks, performed}
use Rattle.lanes.specs.Lanes.{count, results, words_sent}
use Rattle.batch.specs.Secrecy.{Alike, BatchSecret, InRange, seen}
use Rattle.batch.proofs.CallLaw.{accepted, declined_is, done_is}
use Rattle.batch.proofs.ChangeLaw.{changed, changed-back, changed-words, length-changed, received, received_kept}
use Rattle.batch.proofs.GateLaw.{decomposition-bits}
use Rattle.batch.proofs.RefusalLaw.{checks_same}
use Rattle.batch.proofs.SeenLaw.{around-map, far_same, own_same, receives_same, sends_same}

-- what U sees of a call that is not refused
seen-performed : (e l : ℕ) (U : Place) (a T c : Place → List ℕ)
    → seen U (performed e l a T c)
    ≡ (let C = decomposition e l in
    record {
      sends = words_sent C a T U ++ drop (gates_of C) (c U);
      receives = words_sent C a T (next U) ++ drop (gates_of C) (c (next U));
      refusal = 0;
      value = 0;
      gates = gates_of C;
      own = results C a T U;
      far = results C a T (next U);
    })
seen-performed e l U a T c =
    let C = decomposition e l in
    rw (tabled_is (λ i. words_sent C a T i ++ drop (gates_of C) (c i)), tabled_is (results C a T))

module _ (e l : ℕ) (U : Place) (own far : List ℕ) (a b : Place → List ℕ) (alike : Alike U a b) where
  abbrev C : Circuit
  C = decomposition e l

  abbrev with : List ℕ → Place → List ℕ
  with M = around U own far M

  -- the same, where U receives the same
  performed_same : (M M' : List ℕ) (c : Place → List ℕ)
      → ((k : ℕ) → k < count → received C U own far b M' k ≡ received C U own far a M k)
      → seen U (performed e l a (with M) c) ≡ seen U (performed e l b (with M') c)
  performed_same M M' c same =
      rw (
        seen-performed e l U a (with M) c,
        seen-performed e l U b (with M') c,
        sends_same C U own far a b alike M M' same,
        receives_same C U own far a b alike M M' same,
        own_same C U own far a b alike M M' same,
        far_same C U own far a b alike M M' same,
      )

  module _ (range : InRange e a) (range' : InRange e b) (M : List ℕ) (c z : Place → List ℕ) where
    abbrev M' : List ℕ
    M' = changed C U own far a b M

    figures : (i : Place) → length (a i) ≡ length (b i)
    figures = each_around U (λ i. length (a i) ≡ length (b i)) (ap length alike.own) (ap length alike.far) alike.long

    tapes : (i : Place) → length (with M i) ≡ length (with M' i)
    tapes i =
        around-map length U own far M i
        ∙ ap (λ (n : ℕ). around U (length own) (length far) n i) (sym (length-changed C U own far a b M))
        ∙ sym (around-map length U own far M' i)

    met : first_met (checks e l b (with M') c z) ≡ first_met (checks e l a (with M) c z)
    met = ap first_met (sym (checks_same e l a b (with M) (with M') c z range range' figures tapes))

    seen_same : seen U (batch e l a (with M) c z) ≡ seen U (batch e l b (with M') c z)
    seen_same = go (first_met (checks e l a (with M) c z)) refl
      where
        go : (r : ℕ) → first_met (checks e l a (with M) c z) ≡ r → seen U (batch e l a (with M) c z) ≡ seen U (batch e l b (with M') c z)
        go zero h =
            let enough = rw (around_lacked U own far M) at ((accepted e l a (with M) c z h).masks (lacked_by U)) in
            ap (seen U) (done_is e l a (with M) c z h)
            ∙ performed_same M M' c (received_kept C U own far (decomposition-bits e l) a b M enough)
            ∙ ap (seen U) (sym (done_is e l b (with M') c z (met ∙ h)))
        go (suc r) h =
            ap (seen U) (declined_is e l a (with M) c z r h ∙ sym (declined_is e l b (with M') c z r (met ∙ h)))

pub batch_secret : BatchSecret
batch_secret e l U own far a b range range' alike =
    let C = decomposition e l in
    let on = decomposition-bits e l in
    record {
      to = changed C U own far a b;
      from = changed C U own far b a;
      to_words = changed-words C U own far on a b;
      from_words = changed-words C U own far on b a;
      from_to = changed-back C U own far on a b;
      to_from = changed-back C U own far on b a;
      same = λ n M words. seen_same e l U own far a b alike range range' M;
    }
