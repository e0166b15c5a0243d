-- Demands 1 and 2 (specs/Theorems.antt).
use Rattle.std.specs.Prelude.{Some}
use Prim.Native.Nat.{ℕ, ◌+◌, ◌-◌, ◌%◌, ◌≤◌, ◌<◌}
use mathlib.Core.Bool.{Bool, cond, false, not, true, true≢false}
use mathlib.Core.List.{List, [], ◌∷◌, ◌++◌}
use mathlib.Core.Path.{◌≡◌, ap, refl, sym, ◌∙◌}
use native.Mathlib.Nat.{add-zero, mod-eq_of_lt}
use native.Mathlib.Omega.{arith}
use lib.Dec.{leb, ltb}
use lib.ListN.{get_or-eq_default, get_or, length, length-map, set}
use lib.Seq.{get_or-drop, get_or-set_same}
use borrow.Author.Tests.{le-ltb, leb-true, lt-leb, ltb-false}
use Rattle.ring.specs.Rings.{modulus, modulus_of, ring_of, width_of}
use Rattle.ring.specs.declared.rings.Ring.{Ring}
use Rattle.ring.specs.declared.rings.Ring.TheVariants.{R13, R31, R61}
use Rattle.gate.specs.Places.{Place}
use Rattle.circuit.specs.Orders.{addition, multiplication, scaling}
use Rattle.machine.proofs.KindLaw.{neither}
use Rattle.value.proofs.Counts.{compose_count, convert_count}
use Rattle.value.proofs.ModulusLaw.{value-lt}
use Rattle.machine.specs.Checks.{Check, Tapes, any_above15, bad_item, check, first_met, kind_checks, left_of, named, no_ring, public_checks}
use Rattle.machine.specs.Registers.{Kind, Public, bits, count_at, empty, kind_at, kind_of, million, public_of, register_at, sound, width_at}
use Rattle.machine.specs.Step.{Outcome, checks, computed, dealt, lengths_of, opened, performed, step}
use Rattle.machine.specs.Work.{deals, number_kind, work_of}
use Rattle.machine.specs.declared.orders.Order.{Order}
use Rattle.machine.specs.declared.orders.Order.TheVariants.{Add, Compose, Convert, Deal, Decompose, Multiply, Open, Scale, Shift}
use Rattle.machine.specs.declared.registers.Machine.{Machine}
use Rattle.outcome.specs.Theorems.{
  AddLeaves,
  ChannelsStand,
  ComposeLeaves,
  ConvertLeaves,
  ConvertLeavesAll,
  DealAccepted,
  DealLeaves,
  DealRefusedNumber,
  DecomposeLeaves,
  DecomposeLeavesAll,
  GatesAnswered,
  GatesCounted,
  KeepsSound,
  KindLeft,
  MultiplyLeaves,
  OpensValue,
  OthersStand,
  PositionsRise,
  PublicRefusal,
  RoundTrip,
  ScaleLeaves,
  ShiftLeaves,
  ShiftLeavesAll,
  Unchanged,
  ValueAnswered,
  destination,
  gates_for,
  gates_in,
  is_opening,
  kind_left,
  value_at,
  words_in,
}
use Rattle.outcome.proofs.ChannelLaw.{Stands, channels_kept, stands}
use Rattle.outcome.proofs.AcceptLaw.{Accepted, accepted, either, refusal_is, refused_is}
use Rattle.outcome.proofs.CheckLaw.{Passed, last_aside}
use Rattle.outcome.proofs.KindLaw.{
  add-fits,
  add-value,
  compose_fits,
  compose_value,
  convert_fits,
  convert_value,
  convert_value-all,
  count_in_range,
  deal_fits,
  deal_value,
  decompose_fits,
  decompose_gates,
  decompose_value,
  decompose_value-all,
  multiply_fits,
  multiply_value,
  scale_fits,
  scale_value,
  shift_fits,
  shift_gates,
  shift_value,
  shift_value-all,
}
use Rattle.outcome.proofs.OrderLaw.{light, target_is}
use Rattle.outcome.proofs.RegisterLaw.{register_fits, shares_at, sound-parts, value-at}
use Rattle.outcome.proofs.WorkLaw.{
  FitsIn,
  computed-leaves,
  dealt-leaves,
  gates_are,
  others_kept,
  performed-sound,
  public_after_lem,
  public_by,
  rises,
  slots_kept,
}

pub unchanged : Unchanged
unchanged = refused_is

pub public_refusal : PublicRefusal
unfolding checks first_met
public_refusal o m T c is-sound not-item =
    let p = public_of m in
    let public = public_checks o p (lengths_of T c) in
    let item : Check = check (bad_item (work_of o p) (left_of p T)) 10 in
    let first : (step o m T c).refusal ≡ first_met (public ++ (item ∷ [])) = refusal_is o m T c ∙ rw is-sound in
    first ∙ last_aside public item.met 10 (λ e. not-item (first ∙ e))

ring_named : (r : Ring) → ring_of (width_of r) ≡ Some r
unfolding ring_of
ring_named R13 = refl
ring_named R31 = refl
ring_named R61 = refl

pub deal_accepted : DealAccepted
unfolding checks public_checks first_met any_above15
deal_accepted d v r m T c is-sound reached below few room first second =
    let at = m.dealer_at in
    refusal_is (Deal d (width_of r) v) m T c
    ∙ rw (
      is-sound,
      le-ltb 15 d reached,
      ring_named r,
      lt-leb (modulus_of r) v below,
      le-ltb million (length T.dealer) few,
      le-ltb (length T.dealer) (at + 2) room,
      get_or-drop at T.dealer 0 0,
      add-zero at,
      get_or-drop at T.dealer 1 0,
      lt-leb (modulus_of r) (get_or T.dealer at 0) first,
      lt-leb (modulus_of r) (get_or T.dealer (at + 1) 0) second,
    )

-- of a deal's checks, 7 is the number's alone
number_met : (a b c x l n i : Bool)
    → ◌≡◌ {A = ℕ} (cond a 1 (cond b 2 (cond c 5 (cond x 7 (cond l 8 (cond n 9 (cond i 10 0))))))) 7 → x ≡ true
number_met true b c x l n i h = absurd (omega arith)
number_met false true c x l n i h = absurd (omega arith)
number_met false false true x l n i h = absurd (omega arith)
number_met false false false true l n i h = refl
number_met false false false false true n i h = absurd (omega arith)
number_met false false false false false true i h = absurd (omega arith)
number_met false false false false false false true h = absurd (omega arith)
number_met false false false false false false false h = absurd (omega arith)

pub deal_refused_number : DealRefusedNumber
unfolding checks public_checks first_met
deal_refused_number d e v m T c h =
    let n = length T.dealer in
    leb-true (modulus e) v
    (number_met (not (sound m)) (any_above15 (d ∷ [])) (no_ring (ring_of e)) (leb (modulus e) v)
    (ltb million n) (ltb n (m.dealer_at + 2)) (bad_item (deals d e v) (left_of (public_of m) T))
    (sym (refusal_is (Deal d e v) m T c) ∙ h))

-- the kind of register k, and what is left of the mask tapes
abbrev kind : Machine → ℕ → Kind
kind m k = kind_at (public_of m) k

abbrev masks : Machine → Tapes → Place → List ℕ
masks m T = (left_of (public_of m) T).masks

-- what an accepted order leaves is in range
fits_in : (o : Order) (m : Machine) (T : Tapes) (c : Place → List ℕ) → Accepted o m T c
    → FitsIn (work_of o (public_of m)) m (left_of (public_of m) T)
fits_in (Deal d e v) m T c a = deal_fits e v _ _ a.kinds a.items
fits_in (Add d x y) m T c a = add-fits (kind m x) (kind m y) a.kinds (shares_at m x) (shares_at m y) (masks m T)
fits_in (Scale d x k) m T c a = scale_fits (kind m x) k a.kinds (shares_at m x) (shares_at m x) (masks m T)
fits_in (Multiply d x y) m T c a = multiply_fits (kind m x) (kind m y) a.kinds (shares_at m x) (shares_at m y) (masks m T)
fits_in (Decompose d x l) m T c a = decompose_fits (kind m x) l a.kinds (shares_at m x) (shares_at m x) (masks m T)
fits_in (Convert d x f) m T c a = convert_fits (kind m x) f a.kinds (shares_at m x) (shares_at m x) (masks m T)
fits_in (Shift d x s) m T c a = shift_fits (kind m x) s a.kinds (shares_at m x) (shares_at m x) (masks m T)
fits_in (Compose d x f) m T c a = compose_fits (kind m x) f a.kinds (shares_at m x) (shares_at m x) (masks m T)
fits_in (Open x) m T c a = tt

pub keeps_sound : KeepsSound
keeps_sound o m T c ok =
    let a = accepted o m T c ok in
    let w = work_of o (public_of m) in
    rw a.done
    (performed-sound m (left_of (public_of m) T) c T (sound-parts m a.sound) w (light o (public_of m)) a.lengths (fits_in o m T c a))

pub positions_rise : PositionsRise
positions_rise o m T c ok = rw (accepted o m T c ok).done (rises m (left_of (public_of m) T) c (work_of o (public_of m)))

pub gates-answered : GatesAnswered
gates-answered o m T c ok = rw (accepted o m T c ok).done (gates_are m (left_of (public_of m) T) c (work_of o (public_of m)))

counted : (o : Order) (p : Public) → Passed (kind_checks o p) → gates_in (work_of o p) ≡ gates_for o p
unfolding addition scaling multiplication
counted (Deal d e v) p h = refl
counted (Add d x y) p h = refl
counted (Scale d x c) p h = refl
counted (Multiply d x y) p h = refl
counted (Decompose d x l) p h = decompose_gates (kind_at p x) l h
counted (Convert d x f) p h = convert_count (width_at (kind_at p x)) f
counted (Shift d x s) p h = shift_gates (kind_at p x) s h
counted (Compose d x f) p h = compose_count f (count_at (kind_at p x))
counted (Open x) p h = refl

pub gates-counted : GatesCounted
gates-counted o m T c ok = gates-answered o m T c ok ∙ counted o (public_of m) (accepted o m T c ok).kinds

pub others_stand : OthersStand
others_stand o m T c k other =
    either o m T c (λ s. register_at s.machine k ≡ register_at m k)
    (λ a. others_kept m (left_of (public_of m) T) c (work_of o (public_of m)) k (λ e. other (e ∙ target_is o (public_of m))))
    refl

pub channels_stand : ChannelsStand
channels_stand o m T c i =
    let words = words_in (work_of o (public_of m)) in
    either o m T c (λ s. Stands m.channels_at words (c i) (s.channels i))
    (λ a. channels_kept m T (left_of (public_of m) T) c i (work_of o (public_of m)) (light o (public_of m)) a.lengths)
    (stands m.channels_at words (c i))

no_value : (o : Order) (m : Machine) (left : Tapes) (c : Place → List ℕ) → is_opening o ≡ false
    → (performed (work_of o (public_of m)) m left c).value ≡ 0
unfolding dealt computed
no_value (Deal d e v) m left c h = refl
no_value (Add d x y) m left c h = refl
no_value (Scale d x k) m left c h = refl
no_value (Multiply d x y) m left c h = refl
no_value (Decompose d x l) m left c h = refl
no_value (Convert d x f) m left c h = refl
no_value (Shift d x s) m left c h = refl
no_value (Compose d x f) m left c h = refl
no_value (Open x) m left c h = absurd (true≢false h)

pub value-answered : ValueAnswered
value-answered o m T c h =
    either o m T c (λ s. s.value ≡ 0) (λ a. no_value o m (left_of (public_of m) T) c h) refl

pub opens-value : OpensValue
unfolding opened
opens-value x m T c ok = rw (accepted (Open x) m T c ok).done

-- a register that an accepted order names is one of the sixteen
in_reach : (d : ℕ) (ks : List ℕ) (n : ℕ) → any_above15 (d ∷ ks) ≡ false → n ≡ 16 → d < n
unfolding any_above15
in_reach d ks n h sixteen = omega (arith, ltb-false 15 d (neither (ltb 15 d) (any_above15 ks) h).0)

-- what is public after an accepted order is a function of what was public
pub step_public : (o : Order) (m : Machine) (T : Tapes) (c : Place → List ℕ) → (step o m T c).refusal ≡ 0
    → public_of (step o m T c).machine ≡ public_by (work_of o (public_of m)) (public_of m)
step_public o m T c ok =
    ap (λ (s : Outcome). public_of s.machine) (accepted o m T c ok).done
    ∙ public_after_lem m (left_of (public_of m) T) c (work_of o (public_of m))

module _ (p : Public) (sixteen : length p.kinds ≡ 16) where
  kind_put : (d : ℕ) (ks : List ℕ) (kind : Kind) → any_above15 (d ∷ ks) ≡ false → get_or (set p.kinds d kind) d empty ≡ kind
  kind_put d ks kind h = get_or-set_same p.kinds d kind empty (in_reach d ks _ h sixteen)

  kind_by : (o : Order) → any_above15 (named o) ≡ false → kind_at (public_by (work_of o p) p) (destination o) ≡ kind_left (work_of o p)
  kind_by (Deal d e v) h = kind_put d [] (number_kind (ring_of e)) h
  kind_by (Add d x y) h = kind_put d (x ∷ y ∷ []) (kind_at p x) h
  kind_by (Scale d x c) h = kind_put d (x ∷ []) (kind_at p x) h
  kind_by (Multiply d x y) h = kind_put d (x ∷ y ∷ []) (kind_at p x) h
  kind_by (Decompose d x l) h = kind_put d (x ∷ []) (bits l) h
  kind_by (Convert d x f) h = kind_put d (x ∷ []) (number_kind (ring_of f)) h
  kind_by (Shift d x s) h = kind_put d (x ∷ []) (kind_at p x) h
  kind_by (Compose d x f) h = kind_put d (x ∷ []) (number_kind (ring_of f)) h
  kind_by (Open x) h = get_or-eq_default p.kinds empty (omega arith)

pub kind-left : KindLeft
kind-left o m T c ok sixteen =
    ap (λ (p : Public). kind_at p (destination o)) (step_public o m T c ok)
    ∙ kind_by (public_of m) (length-map m.slots kind_of ∙ sixteen) o (accepted o m T c ok).registers

pub deal_leaves : DealLeaves
deal_leaves d e v m T c ok sixteen =
    let a = accepted (Deal d e v) m T c ok in
    rw a.done
    (dealt-leaves m (left_of (public_of m) T) c d e v (in_reach d [] _ a.registers sixteen) ∙ deal_value e v _ _ a.kinds)

pub add-leaves : AddLeaves
add-leaves d x y m T c ok sixteen =
    let a = accepted (Add d x y) m T c ok in
    rw (a.done, value-at m x, value-at m y)
    (computed-leaves m (left_of (public_of m) T) c _ d x y (kind m x) (in_reach d (x ∷ y ∷ []) _ a.registers sixteen)
    ∙ add-value (kind m x) (kind m y) a.kinds (shares_at m x) (shares_at m y) (masks m T))

pub scale_leaves : ScaleLeaves
scale_leaves d x k m T c ok sixteen =
    let a = accepted (Scale d x k) m T c ok in
    rw (a.done, value-at m x)
    (computed-leaves m (left_of (public_of m) T) c _ d x x (kind m x) (in_reach d (x ∷ []) _ a.registers sixteen)
    ∙ scale_value (kind m x) k a.kinds (shares_at m x) (shares_at m x) (masks m T))

pub multiply_leaves : MultiplyLeaves
multiply_leaves d x y m T c ok sixteen =
    let a = accepted (Multiply d x y) m T c ok in
    rw (a.done, value-at m x, value-at m y)
    (computed-leaves m (left_of (public_of m) T) c _ d x y (kind m x) (in_reach d (x ∷ y ∷ []) _ a.registers sixteen)
    ∙ multiply_value (kind m x) (kind m y) a.kinds (shares_at m x) (shares_at m y) (masks m T))

pub decompose_leaves : DecomposeLeaves
decompose_leaves d x l m T c ok sixteen small =
    let a = accepted (Decompose d x l) m T c ok in
    rw (a.done, value-at m x)
    (computed-leaves m (left_of (public_of m) T) c _ d x x (bits l) (in_reach d (x ∷ []) _ a.registers sixteen)
    ∙ decompose_value (kind m x) l a.kinds (shares_at m x) (shares_at m x) (masks m T) (rw (value-at m x) at small))

pub convert_leaves : ConvertLeaves
convert_leaves d x f m T c ok sixteen small =
    let a = accepted (Convert d x f) m T c ok in
    rw (a.done, value-at m x)
    (computed-leaves m (left_of (public_of m) T) c _ d x x (number_kind (ring_of f)) (in_reach d (x ∷ []) _ a.registers sixteen)
    ∙ convert_value (kind m x) f a.kinds (shares_at m x) (shares_at m x) (masks m T) (rw (value-at m x) at small))

pub shift_leaves : ShiftLeaves
shift_leaves d x s m T c ok sixteen small =
    let a = accepted (Shift d x s) m T c ok in
    rw (a.done, value-at m x)
    (computed-leaves m (left_of (public_of m) T) c _ d x x (kind m x) (in_reach d (x ∷ []) _ a.registers sixteen)
    ∙ shift_value (kind m x) s a.kinds (shares_at m x) (shares_at m x) (masks m T) (rw (value-at m x) at small))

pub compose_leaves : ComposeLeaves
compose_leaves d x f m T c ok sixteen =
    let a = accepted (Compose d x f) m T c ok in
    rw (a.done, value-at m x)
    (computed-leaves m (left_of (public_of m) T) c _ d x x (number_kind (ring_of f)) (in_reach d (x ∷ []) _ a.registers sixteen)
    ∙ compose_value (kind m x) f a.kinds (shares_at m x) (shares_at m x) (masks m T) (register_fits m x a.sound))

-- every order leaves as many registers as there were
pub slots_stand : (o : Order) (m : Machine) (T : Tapes) (c : Place → List ℕ) → length (step o m T c).machine.slots ≡ length m.slots
slots_stand o m T c =
    either o m T c (λ s. length s.machine.slots ≡ length m.slots)
    (λ a. slots_kept m (left_of (public_of m) T) c (work_of o (public_of m)))
    refl

pub round_trip : RoundTrip
round_trip d k x m T T' c c' ok ok' sixteen small =
    let e = width_at (kind m x) in
    let o : Order = Decompose d x (e - 2) in
    let wide : 2 ≤ e = omega (arith, count_in_range (kind m x) (e - 2) (accepted o m T c ok).kinds) in
    compose_leaves k d e (step o m T c).machine T' c' ok' (slots_stand o m T c ∙ sixteen)
    ∙ ap (λ (w : ℕ). w % modulus e)
    (decompose_leaves d x (e - 2) m T c ok sixteen small ∙ mod-eq_of_lt (value-lt e (value_at m x) wide small))
    ∙ mod-eq_of_lt (omega arith)

pub decompose_leaves-all : DecomposeLeavesAll
decompose_leaves-all d x l m T c ok sixteen =
    let a = accepted (Decompose d x l) m T c ok in
    rw a.done
    (computed-leaves m (left_of (public_of m) T) c _ d x x (bits l) (in_reach d (x ∷ []) _ a.registers sixteen)
    ∙ decompose_value-all (kind m x) l a.kinds (shares_at m x) (shares_at m x) (masks m T))

pub convert_leaves-all : ConvertLeavesAll
convert_leaves-all d x f m T c ok sixteen =
    let a = accepted (Convert d x f) m T c ok in
    rw a.done
    (computed-leaves m (left_of (public_of m) T) c _ d x x (number_kind (ring_of f)) (in_reach d (x ∷ []) _ a.registers sixteen)
    ∙ convert_value-all (kind m x) f a.kinds (shares_at m x) (shares_at m x) (masks m T))

pub shift_leaves-all : ShiftLeavesAll
shift_leaves-all d x s m T c ok sixteen =
    let a = accepted (Shift d x s) m T c ok in
    rw a.done
    (computed-leaves m (left_of (public_of m) T) c _ d x x (kind m x) (in_reach d (x ∷ []) _ a.registers sixteen)
    ∙ shift_value-all (kind m x) s a.kinds (shares_at m x) (shares_at m x) (masks m T))
