use Rattle.rpki_resources.proofs.Texts.Shortening.{shortened-text, whole-text}
use Rattle.rpki_resources.proofs.laws.forms.ipv6_texts.Goals as goal

pub returns-clause-shortened : goal.returns-clause-shortened
returns-clause-shortened c = shortened-text

pub returns-clause-whole : goal.returns-clause-whole
returns-clause-whole c = whole-text
