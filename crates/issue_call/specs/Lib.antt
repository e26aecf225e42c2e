pub mod IssueCall
