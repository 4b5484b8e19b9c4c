-- Events with equal parts are equal.
use Rattle.std.specs.Prelude.{◌≡◌, ℕ, IsTrue}
use Rattle.std.proofs.Common.{ap, ◌∙◌, subst}
use mathlib.Core.Bool.{Bool-set}
use Rattle.road_base.specs.declared.ids.Key.{Key}
use Rattle.road_base.specs.declared.objects.Body.{Body}
use Rattle.road_base.specs.declared.event.Event.{Event}
use Rattle.road_base.specs.Kinds.{has_kind}

abbrev event : (key : Key) (version : ℕ) (body : Body) → IsTrue (has_kind key body) → Event
event key version body h = record { key = key; version = version; body = body; kind = h }

one_event : (key : Key) (version : ℕ) (body : Body) (h k : IsTrue (has_kind key body))
    → event key version body h ≡ event key version body k
one_event key version body h k = ap (λ r. event key version body r) (Bool-set _ _ h k)

bodies_tie : (key : Key) (version : ℕ) (a b : Body) → a ≡ b
    → (h : IsTrue (has_kind key a)) (k : IsTrue (has_kind key b)) → event key version a h ≡ event key version b k
bodies_tie key version a b same = subst (λ (v : Body). (h : IsTrue (has_kind key a)) (k : IsTrue (has_kind key v))
    → event key version a h ≡ event key version v k) same (one_event key version a)

keys_tie : (p q : Key) (version : ℕ) (a b : Body) → p ≡ q → a ≡ b
    → (h : IsTrue (has_kind p a)) (k : IsTrue (has_kind q b)) → event p version a h ≡ event q version b k
keys_tie p q version a b same_key same_body = subst
    (λ (v : Key). (h : IsTrue (has_kind p a)) (k : IsTrue (has_kind v b)) → event p version a h ≡ event v version b k)
    same_key (bodies_tie p version a b same_body)

versions_tie : (p q : Key) (m n : ℕ) (a b : Body) → p ≡ q → m ≡ n → a ≡ b
    → (h : IsTrue (has_kind p a)) (k : IsTrue (has_kind q b)) → event p m a h ≡ event q n b k
versions_tie p q m n a b same_key same_version same_body h k = keys_tie p q m a b same_key same_body h k
    ∙ ap (λ v. event q v b k) same_version

pub same_event : (e d : Event) → e.key ≡ d.key → e.version ≡ d.version → e.body ≡ d.body → e ≡ d
same_event e d key version body = versions_tie e.key d.key e.version d.version e.body d.body key version body e.kind
    d.kind
