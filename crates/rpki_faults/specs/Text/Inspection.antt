-- The texts of inspections.
use Rattle.std.specs.Prelude.{ℕ, List, codes}
use Rattle.rpki_faults.specs.declared.family.Family.TheVariants.{As, V4, V6}
use Rattle.rpki_faults.specs.declared.inspection.InspectionError.{InspectionError}
use Rattle.rpki_faults.specs.declared.inspection.InspectionError.TheVariants as faults

-- Why a certificate, or an object with its certificate, does not fit the profile. But for that of
-- `SidMismatch` the texts are this project's own.
abbrev pub inspection_text : InspectionError → List ℕ
inspection_text faults.SidMismatch = codes "Subject Key Identifier mismatch in signed object"
inspection_text faults.KeyIdentifier = codes "key identifier mismatch"
inspection_text faults.NoResources = codes "no resources"
inspection_text faults.MissingAki = codes "missing AKI"
inspection_text faults.MissingCrlUri = codes "missing CRL URI"
inspection_text faults.MissingCaIssuer = codes "missing CA issuer"
inspection_text faults.BasicCa = codes "wrong basic constraints"
inspection_text faults.KeyUsage = codes "wrong key usage"
inspection_text faults.Eku = codes "unexpected extended key usage"
inspection_text faults.MissingRepository = codes "missing CA repository"
inspection_text faults.MissingManifest = codes "missing manifest URI"
inspection_text faults.SignedObject = codes "unexpected signed object URI"
inspection_text faults.MissingSignedObject = codes "missing signed object URI"
inspection_text faults.CaAccess = codes "unexpected CA access"
inspection_text faults.TaAki = codes "bad AKI of trust anchor"
inspection_text faults.TaCrlUri = codes "unexpected CRL URI"
inspection_text faults.TaCaIssuer = codes "unexpected CA issuer"
inspection_text faults.TaInherit = codes "trust anchor inherits"
inspection_text (faults.NotCovered As) = codes "AS resources not covered"
inspection_text (faults.NotCovered V4) = codes "IPv4 resources not covered"
inspection_text (faults.NotCovered V6) = codes "IPv6 resources not covered"
