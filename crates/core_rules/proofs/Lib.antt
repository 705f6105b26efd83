mod Cases
mod Conclusions
mod Entries
mod Forms
mod Inserting
mod RecordSteps
mod SumRules
