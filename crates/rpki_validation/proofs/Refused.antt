-- What is refused of a revocation list and of a locator is not good.
use Rattle.std.proofs.Common.{◌≡◌, ◌∙◌, ℕ, List, true, Ok, Err, refl, subst}
use Rattle.rpki_der.specs.declared.error.DecodeError.{DecodeError}
use Rattle.rpki_der.specs.declared.error.DecodeError.TheVariants as decoding
use Rattle.rpki_der.specs.declared.mode.Mode.TheVariants.{Der}
use Rattle.rpki_der.specs.Grammar.{HasNoFront}
use Rattle.rpki_der.specs.Read.Reads.{Refuses}
use Rattle.rpki_faults.specs.Checks.{AllHold}
use Rattle.rpki_faults.proofs.Order.{first-fails}
use Rattle.rpki_certs.specs.Cert.{Certificate}
use Rattle.rpki_crls.specs.Crl.{CrlForm, KeptCrl, RevocationList}
use Rattle.rpki_tal.specs.Tal.{Locator}
use Rattle.rpki_validation.specs.Locator.{IsLocatorFound, is_memory_of_locator}
use Rattle.rpki_validation.specs.RevocationList.{IsListFound, is_memory_of_list, list_checks}
use Rattle.rpki_validation.specs.Revoked.{IsList}
use Rattle.rpki_validation.specs.declared.grounds.Grounds.{Grounds}
use Rattle.rpki_validation.specs.declared.locator.LocatorFault.{LocatorFault}
use Rattle.rpki_validation.specs.declared.locator.LocatorFault.TheVariants as faults
use Rattle.rpki_validation.specs.declared.revocation_list.ListFault.{ListFault}
use Rattle.rpki_validation.specs.declared.revocation_list.ListFault.TheVariants.{Check, Decode}

-- octets that begin with a list are refused as none for want of memory alone
unread-list : (octets : List ℕ) (list : RevocationList) (e : DecodeError) → IsList octets list
    → Refuses e (HasNoFront (CrlForm Der) octets) → is_memory_of_list (Decode e) ≡ true
unread-list octets list decoding.Memory h none = refl
unread-list octets list decoding.Malformed h none = absurd (none list h.0 h.1.found)
unread-list octets list (decoding.Content fault) h none = absurd (none list h.0 h.1.found)

pub list-not : (g : Grounds) (octets : List ℕ) (k : KeptCrl) (fault : ListFault)
    → IsListFound g octets (Ok k) → IsListFound g octets (Err fault)
    → is_memory_of_list fault ≡ true
list-not g octets k (Decode e) h none = unread-list octets k.list e h.0 none
list-not g octets k (Check fault) h (list, is, first) =
    absurd (first-fails (list_checks g.issuer g.moment list) fault first
    (subst (λ (l : RevocationList). AllHold (list_checks g.issuer g.moment l))
    (is.1.only k.list h.0.0 h.0.1.found).0 h.1))

pub locator-not : (anchor octets : List ℕ) (l : Locator) (fault : LocatorFault)
    → IsLocatorFound anchor octets (Ok l) → IsLocatorFound anchor octets (Err fault)
    → is_memory_of_locator fault ≡ true
locator-not anchor octets l faults.Memory h none = refl
locator-not anchor octets l faults.NoLocator h none = absurd (none l.uris l.key h.0.form)
locator-not anchor octets l faults.NoCertificate h none =
    absurd (none h.1.cert h.1.rest h.1.front.found)
locator-not anchor octets l faults.OtherKey h (m, is, other) =
    absurd (other.holds (subst (λ (c : Certificate). c.tbs.key ≡ m.key)
    (other.front.only h.1.cert h.1.rest h.1.front.found).0
    (h.1.holds ∙ (is.only l.uris l.key h.0.form).1)))
